-- An event that is kept in the record: the moments that it adds.
use Rattle.std.proofs.Common.{◌≡◌, ◌⊎◌, inl, inr, ⊎_elim, ℕ, zero, suc, ◌≤◌, List, [], ◌∷◌, ◌++◌, length, take, drop, refl, sym, ◌∙◌, ap, subst, arith, length-append}
use Rattle.std.proofs.lemmas.List.{take_all, take-append-le, drop_all}
use Rattle.pm_disk.specs.Worlds.{World}
use Rattle.pm_disk.specs.Moments.{Elapses}
use Rattle.pm_disk.specs.Lending.{Joins}
use Rattle.pm_disk_mem.specs.Steps.{replay, HoldsWorld}
use Rattle.pm_disk_mem.specs.declared.console.Console.{Console}
use Rattle.pm_disk_mem.specs.declared.files.Files.{Files}
use Rattle.pm_disk_mem.specs.Events.{lent_world, told_by, after_event, after_events, WasDuring, WasDuringFirst, HasBeenDuring, history_during}
use Rattle.pm_disk_mem.specs.declared.event.Event.{Event}
use Rattle.pm_disk_mem.specs.declared.event.Event.TheVariants.{Single, Round}
use Rattle.pm_disk_mem.specs.declared.event.Record.{Record}
use Rattle.pm_disk_mem.specs.declared.step.Step.{Step}

pub after-push : (events : List Event) (event : Event) (world : World) → after_events (events ++ event ∷ []) world ≡ after_event event (after_events events world)
after-push [] event world = refl
after-push (first ∷ events) event world = after-push events event (after_event first world)

-- what went on after a prefix of the events
next_of : (k : ℕ) (events : List Event) (event : Event) (before world : World) → k ≤ length events → WasDuringFirst (drop k (events ++ event ∷ [])) before world
    → WasDuringFirst (drop k events) before world ⊎ ((k ≡ length events) × WasDuring event before world)
next_of zero [] event before world le during = inr (refl, during)
next_of (suc k) [] event before world le during = absurd (omega (arith, le))
next_of zero (first ∷ events) event before world le during = inl during
next_of (suc k) (first ∷ events) event before world le during = elim (next_of k events event before world (omega (arith, le)) during) [
  | inl was ↦ inl was
  | inr new ↦ inr (ap suc new.0, new.1)
]

keeps_next : (k : ℕ) (events : List Event) (event : Event) (before world : World) → WasDuringFirst (drop k events) before world → WasDuringFirst (drop k (events ++ event ∷ [])) before world
keeps_next zero [] event before world during = absurd during
keeps_next (suc k) [] event before world during = absurd during
keeps_next zero (first ∷ events) event before world during = during
keeps_next (suc k) (first ∷ events) event before world during = keeps_next k events event before world during

last_next : (events : List Event) (event : Event) (before world : World) → WasDuring event before world → WasDuringFirst (drop (length events) (events ++ event ∷ [])) before world
last_next [] event before world during = during
last_next (first ∷ events) event before world during = last_next events event before world during

module _ (start : World) (events : List Event) (event : Event) where
  abbrev before : World
  before = after_events events start

  front : (k : ℕ) → k ≤ length events → after_events (take k (events ++ event ∷ [])) start ≡ after_events (take k events) start
  front k le = ap (λ (l : List Event). after_events l start) (take-append-le k events (event ∷ []) le)

  split : (k : ℕ) → k ≤ length (events ++ event ∷ []) → (k ≤ length events) ⊎ (length (events ++ event ∷ []) ≤ k)
  split k le = grind (arith, length-append events (event ∷ []))

  -- a moment after it is an earlier one, one while it went on, or that of its end
  later_moments : (t : ℕ) (w : World) → HasBeenDuring start (events ++ event ∷ []) t w → HasBeenDuring start events t w ⊎ (WasDuring event before w ⊎ (w ≡ after_events (events ++ event ∷ []) start))
  later_moments t w was =
      let k = was.0 in
      elim (split k was.2) [
        | inl within ↦ elim was.3 [
          | inl is ↦ inl (k, was.1, within, inl (is ∙ front k within))
          | inr next ↦
              let next_old : WasDuringFirst (drop k (events ++ event ∷ [])) (after_events (take k events) start) w = subst (λ old. WasDuringFirst (drop k (events ++ event ∷ [])) old w) (front k within) next in
              elim (next_of k events event (after_events (take k events) start) w within next_old) [
                | inl earlier ↦ inl (k, was.1, within, inr earlier)
                | inr new ↦
                    let all : after_events (take k events) start ≡ before = ap (λ (l : List Event). after_events l start) (take_all k events (omega (arith, new.0))) in
                    inr (inl (subst (λ old. WasDuring event old w) all new.1))
              ]
        ]
        | inr past ↦ elim was.3 [
          | inl is ↦ inr (inr (is ∙ ap (λ (l : List Event). after_events l start) (take_all k (events ++ event ∷ []) past)))
          | inr next ↦ absurd (subst (λ (l : List Event). WasDuringFirst l (after_events (take k (events ++ event ∷ [])) start) w) (drop_all k (events ++ event ∷ []) past) next)
        ]
      ]

  keeps_moments : (t : ℕ) (w : World) → HasBeenDuring start events t w → HasBeenDuring start (events ++ event ∷ []) t w
  keeps_moments t w was = (
    was.0,
    was.1,
    omega (arith, was.2, length-append events (event ∷ [])),
    elim was.3 [
      | inl is ↦ inl (is ∙ sym (front was.0 was.2))
      | inr next ↦ inr (subst (λ old. WasDuringFirst (drop was.0 (events ++ event ∷ [])) old w) (sym (front was.0 was.2)) (keeps_next was.0 events event (after_events (take was.0 events) start) w next))
    ],
  )

  new_moment : (t : ℕ) (w : World) → t ≤ length events → WasDuring event before w → HasBeenDuring start (events ++ event ∷ []) t w
  new_moment t w le during =
      let all : after_events (take (length events) (events ++ event ∷ [])) start ≡ before = front (length events) (omega arith) ∙ ap (λ (l : List Event). after_events l start) (take_all (length events) events (omega arith)) in
      (length events, le, omega (arith, length-append events (event ∷ [])), inr (subst (λ old. WasDuringFirst (drop (length events) (events ++ event ∷ [])) old w) (sym all) (last_next events event before w during)))

-- a single step has one moment, that of its end
pub elapses_single : (start : World) (events : List Event) (step : Step) → Elapses (history_during start events) (history_during start (events ++ Single step ∷ []))
elapses_single start events step = record {
  later = omega (arith, length-append events (Single step ∷ []));
  nothing_else = λ t w le was. ⊎_elim inl (λ new. inr (⊎_elim (λ no. absurd no) (λ is. is) new)) (later_moments start events (Single step) t w was);
  keeps = λ t w le was. keeps_moments start events (Single step) t w was;
}

-- a part has been at its last moment
last_of : (part : Record) → (told_by part).was 0 (told_by part).world
last_of part = (length part.steps.items, omega arith, omega arith, ap (λ (l : List Step). replay l (lent_world part)) (sym (take_all (length part.steps.items) part.steps.items (omega arith))))

-- a round has each pair of the moments of its parts
pub joins_round : (start : World) (events : List Event) (log pages : Record) → Joins (history_during start events) (history_during start (events ++ Round log pages ∷ [])) (told_by log) (told_by pages)
joins_round start events log pages =
    let round = Round log pages in
    record {
      later = omega (arith, length-append events (round ∷ []));
      nothing_else = λ t w le was. ⊎_elim inl (λ new. inr (⊎_elim (λ during. during) (λ is. record { log_then = (told_by log).world; pages_then = (told_by pages).world; log_was = last_of log; pages_were = last_of pages; is = is ∙ after-push events round start }) new)) (later_moments start events round t w was);
      keeps = λ t w le was. keeps_moments start events round t w was;
      each_pair = λ t w le pair. new_moment start events round t w le pair;
      now = after-push events round start;
    }

-- What is held then: the segments of the one part, the partitions' files of the other, and all else as it was.
pub holds_joined : (host log writer : Files) (console log_console page_console : Console) (events : List Event) (start : World) (log_kept page_kept : Record) (now : List Event)
    → HoldsWorld host console (after_events events start) → HoldsWorld log log_console (told_by log_kept).world → HoldsWorld writer page_console (told_by page_kept).world → now ≡ events ++ Round log_kept page_kept ∷ []
    → HoldsWorld (record { log = log.log; pages = writer.pages; starts = host.starts; ends = host.ends }) console (after_events now start)
holds_joined host log writer console log_console page_console events start log_kept page_kept now stands log_stands pages_stand is =
    subst (λ (w : World). HoldsWorld (record { log = log.log; pages = writer.pages; starts = host.starts; ends = host.ends }) console w)
    (sym (ap (λ (l : List Event). after_events l start) is ∙ after-push events (Round log_kept page_kept) start))
    (record { log = log_stands.log; pages = pages_stand.pages; starts = stands.starts; ends = stands.ends; said = stands.said; input = stands.input })
