-- How many replies of each kind there are, and the line that says so:
--
--     lines N ok A value B none C true D false E full F
use Rattle.std.specs.Prelude.{ℕ, ◌+◌, List, [], ◌∷◌, ◌++◌, true, false, codes, decimal}
use Rattle.pm_model.specs.declared.reply.Reply.{Reply}
use Rattle.pm_model.specs.declared.reply.Reply.TheVariants as reply
use Rattle.pm_model.specs.declared.reply.Reply.TheVariants.{Done, Found, Absent, Was, Full, BadLine, LongLine}
use Rattle.pm_top.specs.declared.counting.ReplyCounts.{ReplyCounts}

-- no reply
abbrev pub no_counts : ReplyCounts
no_counts = record { done = 0; found = 0; absent = 0; removed = 0; missing = 0; full = 0 }

-- one reply more; those to scans and to bad lines aren't counted
abbrev pub with_reply : ReplyCounts → Reply → ReplyCounts
with_reply counts Done = record counts { done = counts.done + 1 }
with_reply counts (Found value) = record counts { found = counts.found + 1 }
with_reply counts Absent = record counts { absent = counts.absent + 1 }
with_reply counts (Was true) = record counts { removed = counts.removed + 1 }
with_reply counts (Was false) = record counts { missing = counts.missing + 1 }
with_reply counts Full = record counts { full = counts.full + 1 }
with_reply counts (reply.Pairs pairs) = counts
with_reply counts BadLine = counts
with_reply counts LongLine = counts

-- these replies more
abbrev pub with_all : ReplyCounts → List Reply → ReplyCounts
with_all counts [] = counts
with_all counts (reply ∷ replies) = with_all (with_reply counts reply) replies

-- how many there are of each kind
abbrev pub counts_of : List Reply → ReplyCounts
counts_of replies = with_all no_counts replies

-- how many were counted
abbrev pub counted_in : ReplyCounts → ℕ
counted_in counts = counts.done + counts.found + counts.absent + counts.removed + counts.missing + counts.full

-- the line that says how many lines were run, and how many replies of each kind there were
abbrev pub summary_line : ℕ → ReplyCounts → List ℕ
summary_line lines counts =
    codes "lines " ++ decimal lines ++ codes " ok " ++ decimal counts.done
    ++ codes " value " ++ decimal counts.found ++ codes " none " ++ decimal counts.absent
    ++ codes " true " ++ decimal counts.removed ++ codes " false " ++ decimal counts.missing
    ++ codes " full " ++ decimal counts.full ++ codes "\n"
