-- What contracts see of a worker's end of its ring.
use Rattle.std.specs.Prelude.{ℕ, List}
use Rattle.rtrb.specs.Ring.{sent, known_free, SameProducer}
use Rattle.pm_logger.specs.declared.log_end.LogEnd.{LogEnd}

-- the blocks that were pushed, each as its bytes, oldest first
abbrev pub pushed : LogEnd → List (List ℕ)
pushed end = sent end.producer

-- how many slots of the ring are known to be free
abbrev pub free_slots : LogEnd → ℕ
free_slots end = known_free end.producer

-- the same end of the same ring
abbrev pub SameEnd : LogEnd → LogEnd → Type 0
SameEnd old new = SameProducer old.producer new.producer
