-- A put that is answered `Done` leaves its row in the map.
use Rattle.std.proofs.Common.{◌≡◌, ◌∙◌, ◌↔◌, ℕ, List, [], ◌∷◌, Bool, true, false, Some, Ok, ap, cond, subst, take, slice_get}
use Rattle.std.specs.FinMap.{get, insert, get-insert}
use Rattle.std.specs.Cmp.{eq_by_cmp_equiv}
use Rattle.pm_types.specs.declared.shape.Shape.{Shape}
use Rattle.pm_disk.specs.Moments.{History}
use Rattle.pm_model.proofs.CacheKeys.{cache_keys_total}
use Rattle.pm_model.specs.declared.cache_key.CacheKey.{CacheKey}
use Rattle.pm_model.specs.declared.reply.Reply.{Reply}
use Rattle.pm_model.specs.declared.reply.Reply.TheVariants.{Done, Full}
use Rattle.pm_model.specs.Eval.{Pairs, after, reply_to, cache_key, is_full}
use Rattle.pm_model.specs.ReplyLists.{ReplyList, no_replies, with_replies}
use Rattle.pm_core.specs.Held.{pairs_in}
use Rattle.pm_engine.specs.Engines.{FrameRunning, map_in}
use Rattle.pm_engine.specs.FrameBatches.{MayGoOn, RunsFrameBatch}
use Rattle.pm_engine.specs.FrameRounds.{EvaluatesLines}
use Rattle.pm_engine.specs.FrameStores.{pages_in_frames}
use Rattle.pm_client.specs.Rows.{HasRow, put_line}

-- the value that was put last is there
put_there : (pairs : Pairs) (at : CacheKey) (value : List ℕ) → get (insert pairs at value) at ≡ Some value
put_there pairs at value = get-insert cache_keys_total pairs at value at ∙ ap (λ (b : Bool). cond b (Some value) (get pairs at)) ((eq_by_cmp_equiv cache_keys_total).refl at)

by_full : (full : Bool) (pairs : Pairs) (at : CacheKey) (value : List ℕ) → cond full Full Done ≡ Done → get (cond full pairs (insert pairs at value)) at ≡ Some value
by_full true pairs at value is = absurd cc
by_full false pairs at value is = put_there pairs at value

put_row : (shape : Shape) (pairs : Pairs) (cache : ℕ) (key value : List ℕ) → reply_to shape (put_line cache key value) pairs ≡ Done → get (after shape (put_line cache key value) pairs) (cache_key cache key) ≡ Some value
put_row shape pairs cache key value is = by_full (is_full shape (cache_key cache key) pairs) pairs (cache_key cache key) value is

-- a batch of one put, whose first reply is `Done`
pub has_row : (tells : Type 0) (old new : History) (cache : ℕ) (key value : List ℕ) (before now : FrameRunning) (was : ReplyList) → was ≡ no_replies 1 → (replies : ReplyList) (is_done : Bool)
    → tells → RunsFrameBatch tells old new 1 (put_line cache key value ∷ []) 35 2 before now was replies (Ok tt) → MayGoOn before old.world 35 2
    → ((reply : Reply) → slice_get replies.replies 0 ≡ Some reply → (is_done ≡ true) ↔ (reply ≡ Done)) → is_done ≡ true → HasRow cache key value now new.world
has_row tells old new cache key value before now was fresh replies is_done t runs may done is =
    let shape = before.store.shape in
    let line = put_line cache key value in
    let at = cache_key cache key in
    let pairs = map_in before old.world in
    let does = subst (λ (n : ℕ). EvaluatesLines shape (take n (line ∷ [])) (pages_in_frames before.store old.world) (pages_in_frames now.store new.world) was replies) runs.all (runs.evaluates t tt may) in
    let is_reply = ap (λ (list : ReplyList). slice_get list.replies 0) (does.replied ∙ ap (with_replies (reply_to shape line pairs ∷ [])) fresh) in
    ap (λ (s : Shape). get (pairs_in s.partitions (pages_in_frames now.store new.world)) at) runs.same.shape ∙ ap (λ (m : Pairs). get m at) does.map ∙ put_row shape pairs cache key value ((done (reply_to shape line pairs) is_reply).0 is)
