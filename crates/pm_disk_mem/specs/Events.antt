-- What a host in memory has done, its rounds among it, and what the disk was meanwhile.
use Rattle.std.specs.Prelude.{◌≡◌, ◌≤◌, ◌⊎◌, ℕ, List, [], ◌∷◌, length, take, drop}
use Rattle.pm_disk.specs.Worlds.{World, joined}
use Rattle.pm_disk.specs.Moments.{History}
use Rattle.pm_disk.specs.Lending.{IsPaired}
use Rattle.pm_disk_mem.specs.Steps.{stepped, replay, files_world, history_after}
use Rattle.pm_disk_mem.specs.declared.event.Event.{Event}
use Rattle.pm_disk_mem.specs.declared.event.Event.TheVariants.{Single, Round}
use Rattle.pm_disk_mem.specs.declared.event.Record.{Record}

-- the world in which a part was lent that did this
abbrev pub lent_world : Record → World
lent_world part = files_world part.began.value

-- what a part tells that did this
abbrev pub told_by : Record → History
told_by part = history_after (lent_world part) part.steps.items

-- the world after an event
abbrev pub after_event : Event → World → World
after_event (Single step) world = stepped step world
after_event (Round log pages) world = joined world (replay log.steps.items (lent_world log))
    (replay pages.steps.items (lent_world pages))

-- the world after these events, the first of them first
abbrev pub after_events : List Event → World → World
after_events [] world = world
after_events (event ∷ events) world = after_events events (after_event event world)

-- the world was so while the event went on
abbrev pub WasDuring : Event → World → World → Type 0
WasDuring (Single step) before world = ⊥
WasDuring (Round log pages) before world = IsPaired before (told_by log) (told_by pages) world

-- the world was so while the first of these events went on
abbrev pub WasDuringFirst : List Event → World → World → Type 0
WasDuringFirst [] before world = ⊥
WasDuringFirst (event ∷ events) before world = WasDuring event before world

-- the world was so after a prefix of the events, at least so many, or while the next one went on
abbrev pub HasBeenDuring : World → List Event → ℕ → World → Type 0
HasBeenDuring start events least world = (k : ℕ) × (least ≤ k) × (k ≤ length events)
    × ((world ≡ after_events (take k events) start)
    ⊎ WasDuringFirst (drop k events) (after_events (take k events) start) world)

-- what a host tells that has done this: the moment is the number of its events
abbrev pub history_during : World → List Event → History
history_during start events =
    record { world = after_events events start; clock = length events; was = HasBeenDuring start events }
