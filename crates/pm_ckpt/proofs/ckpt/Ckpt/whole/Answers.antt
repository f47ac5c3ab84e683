use Rattle.std.proofs.Common.{◌≡◌, List, Some, length, sym, ◌∙◌, ap, subst, arith}
use Rattle.std.specs.Prelude.{All}
use Rattle.std.specs.Vec.{vec_capacity}
use Rattle.std.proofs.lemmas.List.{length-map}
use Rattle.std.proofs.lemmas.List.Sorted.{length_permutation}
use Rattle.std.proofs.lemmas.Option.{same_Some}
use Rattle.pm_types.specs.declared.flag.Flag.TheVariants as flag
use Rattle.pm_types.specs.declared.page_id.PageId.{PageId}
use Rattle.pm_types.specs.declared.shape.Mark.{Mark}
use Rattle.pm_types.specs.declared.shape.Shape.{Shape}
use Rattle.pm_disk.specs.declared.failed.Failed.{Failed}
use Rattle.pm_core.specs.PageSets.{AreOnce}
use Rattle.pm_ckpt.specs.declared.frame_page.FramePage.{FramePage}
use Rattle.pm_ckpt.specs.Checkpoints.{MayCheckpoint, IsEnded}
use Rattle.pm_ckpt.specs.Dirty.{dirty_frames, dirty_pages, dirty_held}
use Rattle.pm_ckpt.specs.Frames.{IsFlagged, AreApart, AreInFrames, HaveLength, CleansFrames, names_of}
use Rattle.pm_ckpt.specs.Marked.{Kept, next_mark, room_of}
use Rattle.pm_ckpt.specs.Writes.{StoresPages}
use Rattle.pm_ckpt.proofs.CleanedFrames.{seen_flagged, seen_sized, seen_held, cleans_seen, are_cleaned}
use Rattle.pm_ckpt.proofs.DirtyPages.{pages_once, pages_apart, pages_flagged, pages_sized, pages_held}
use Rattle.pm_ckpt.proofs.Gathered.{rooms, have_frames, none_in_order, order_of}
use Rattle.pm_ckpt.proofs.Listed.{below_few}
use Rattle.pm_ckpt.proofs.Orders.{may_order, ended_order, whole_err, whole_ok}
use Rattle.pm_ckpt.proofs.RestingStripes.{resting_after, clean_stored, page_there, stays_none, clean_read}
use Rattle.pm_ckpt.proofs.ckpt.Ckpt.whole.Goals as goal

pub gather-requires-clause-frames : goal.gather-requires-clause-frames
gather-requires-clause-frames g c =
    let room : room_of c.self.inside.idle ≡ Some (length c.args.locks.now.ranges) = ap (λ (k : Kept). k.room) c.self.view_is ∙ c.requires.room in
    let have = rooms c.self.inside.idle c.self.inside.frames (vec_capacity c.self.inside.pages) (vec_capacity c.self.inside.order) (length c.args.locks.now.ranges) c.self.invariant room in
    have.0

pub gather-requires-clause-stripes : goal.gather-requires-clause-stripes
gather-requires-clause-stripes g c =
    let room : room_of c.self.inside.idle ≡ Some (length c.args.locks.now.ranges) = ap (λ (k : Kept). k.room) c.self.view_is ∙ c.requires.room in
    let have = rooms c.self.inside.idle c.self.inside.frames (vec_capacity c.self.inside.pages) (vec_capacity c.self.inside.order) (length c.args.locks.now.ranges) c.self.invariant room in
    have_frames c.args.locks.now c.args.self.now.shape c.args.seat.now c.args.stripes.now c.self.inside.frames have.0 c.requires.stripes

pub gather-requires-clause-room : goal.gather-requires-clause-room
gather-requires-clause-room g c =
    let room : room_of c.self.inside.idle ≡ Some (length c.args.locks.now.ranges) = ap (λ (k : Kept). k.room) c.self.view_is ∙ c.requires.room in
    let have = rooms c.self.inside.idle c.self.inside.frames (vec_capacity c.self.inside.pages) (vec_capacity c.self.inside.order) (length c.args.locks.now.ranges) c.self.invariant room in
    have.1

pub gather-requires-clause-names_room : goal.gather-requires-clause-names_room
gather-requires-clause-names_room g c =
    let room : room_of c.self.inside.idle ≡ Some (length c.args.locks.now.ranges) = ap (λ (k : Kept). k.room) c.self.view_is ∙ c.requires.room in
    let have = rooms c.self.inside.idle c.self.inside.frames (vec_capacity c.self.inside.pages) (vec_capacity c.self.inside.order) (length c.args.locks.now.ranges) c.self.invariant room in
    have.2

pub fill-requires-clause-once : goal.fill-requires-clause-once
fill-requires-clause-once g c =
    let locks = c.args.locks.now in
    let seat = c.args.seat.now in
    let stripes = c.args.stripes.now in
    let shape = c.args.self.now.shape in
    let pages = c.gather.new.pages.items in
    let sight = c.gather.ensures.same in
    let resting = c.requires.stripes in
    let same = c.gather.ensures.pages in
    let whole = c.requires.seat in
    subst AreOnce (sym (c.deref.ensures.value ∙ c.gather.ensures.names)) (pages_once locks shape seat stripes resting whole pages same)

pub fill-requires-clause-room : goal.fill-requires-clause-room
fill-requires-clause-room g c =
    let locks = c.args.locks.now in
    let seat = c.args.seat.now in
    let stripes = c.args.stripes.now in
    let shape = c.args.self.now.shape in
    let pages = c.gather.new.pages.items in
    let sight = c.gather.ensures.same in
    let resting = c.requires.stripes in
    let same = c.gather.ensures.pages in
    let whole = c.requires.seat in
    let room : room_of c.self.inside.idle ≡ Some (length c.args.locks.now.ranges) = ap (λ (k : Kept). k.room) c.self.view_is ∙ c.requires.room in
    let have = rooms c.self.inside.idle c.self.inside.frames (vec_capacity c.self.inside.pages) (vec_capacity c.self.inside.order) (length c.args.locks.now.ranges) c.self.invariant room in
    let kept : c.self.inside.idle ≡ Some c.unwrap-idle.result = cc in
    let set : c.unwrap-idle.result ≡ Some c.unwrap-set.result = cc in
    let has : room_of c.self.inside.idle ≡ Some c.unwrap-set.result.spare = ap room_of (kept ∙ ap (λ o. Some o) set) in
    let spare : c.unwrap-set.result.spare ≡ length locks.ranges = same_Some _ _ (sym has ∙ room) in
    let names : length c.deref.result.now ≡ length (names_of pages) = ap (λ (ps : List PageId). length ps) (c.deref.ensures.value ∙ c.gather.ensures.names) in
    omega (arith, spare, names, length-map pages (λ (p : FramePage). p.page), length_permutation (dirty_frames locks stripes seat.view) pages same, below_few stripes seat.view (length locks.ranges))

pub checkpoint_frames-requires-clause-once : goal.checkpoint_frames-requires-clause-once
checkpoint_frames-requires-clause-once g c κs within =
    let locks = c.args.locks.now in
    let seat = c.args.seat.now in
    let stripes = c.args.stripes.now in
    let shape = c.args.self.now.shape in
    let pages = c.gather.new.pages.items in
    let sight = c.gather.ensures.same in
    let resting = c.requires.stripes in
    let same = c.gather.ensures.pages in
    let whole = c.requires.seat in
    subst AreOnce (sym (c.deref-3.ensures.value ∙ c.gather.ensures.names)) (pages_once locks shape seat stripes resting whole pages same)

pub checkpoint_frames-requires-clause-names : goal.checkpoint_frames-requires-clause-names
checkpoint_frames-requires-clause-names g c κs within = c.deref-3.ensures.value ∙ c.gather.ensures.names ∙ ap names_of (sym c.deref-2.ensures.value)

pub checkpoint_frames-requires-clause-apart : goal.checkpoint_frames-requires-clause-apart
checkpoint_frames-requires-clause-apart g c κs within =
    let locks = c.args.locks.now in
    let seat = c.args.seat.now in
    let stripes = c.args.stripes.now in
    let shape = c.args.self.now.shape in
    let pages = c.gather.new.pages.items in
    let sight = c.gather.ensures.same in
    let resting = c.requires.stripes in
    let same = c.gather.ensures.pages in
    let whole = c.requires.seat in
    subst AreApart (sym c.deref-2.ensures.value) (pages_apart locks shape seat stripes resting whole pages same)

pub checkpoint_frames-requires-clause-dirty : goal.checkpoint_frames-requires-clause-dirty
checkpoint_frames-requires-clause-dirty g c κs within =
    let locks = c.args.locks.now in
    let seat = c.args.seat.now in
    let stripes = c.args.stripes.now in
    let shape = c.args.self.now.shape in
    let pages = c.gather.new.pages.items in
    let sight = c.gather.ensures.same in
    let resting = c.requires.stripes in
    let same = c.gather.ensures.pages in
    let whole = c.requires.seat in
    subst (λ (ps : List FramePage). All (IsFlagged locks flag.Dirty c.gather.new.seat.view) ps) (sym c.deref-2.ensures.value)
    (seen_flagged seat.view c.gather.new.seat.view sight locks flag.Dirty pages (pages_flagged locks shape seat stripes resting whole pages same))

pub checkpoint_frames-requires-clause-sized : goal.checkpoint_frames-requires-clause-sized
checkpoint_frames-requires-clause-sized g c κs within =
    let locks = c.args.locks.now in
    let seat = c.args.seat.now in
    let stripes = c.args.stripes.now in
    let shape = c.args.self.now.shape in
    let pages = c.gather.new.pages.items in
    let sight = c.gather.ensures.same in
    let resting = c.requires.stripes in
    let same = c.gather.ensures.pages in
    let whole = c.requires.seat in
    let shape_is : shape ≡ c.next_mark-mark.result.shape = sym (ap (λ (m : Mark). m.shape) c.next_mark-mark.ensures ∙ ap (λ (k : Kept). k.shape) c.self.view_is) in
    subst (λ (s : Shape). HaveLength s.page_size c.gather.new.seat.view c.deref-2.result.now) shape_is
    (subst (λ (ps : List FramePage). HaveLength shape.page_size c.gather.new.seat.view ps) (sym c.deref-2.ensures.value)
    (seen_sized seat.view c.gather.new.seat.view sight shape.page_size pages (pages_sized locks shape seat stripes resting whole pages same)))

pub checkpoint_frames-requires-clause-held : goal.checkpoint_frames-requires-clause-held
checkpoint_frames-requires-clause-held g c κs within =
    let locks = c.args.locks.now in
    let seat = c.args.seat.now in
    let stripes = c.args.stripes.now in
    let shape = c.args.self.now.shape in
    let pages = c.gather.new.pages.items in
    let sight = c.gather.ensures.same in
    let resting = c.requires.stripes in
    let same = c.gather.ensures.pages in
    let whole = c.requires.seat in
    let held = dirty_held locks stripes seat.view in
    let pages_at : pages ≡ c.deref-2.result.now = sym c.deref-2.ensures.value in
    let order_at : c.gather.new.order.items ≡ c.deref-3.result.now = sym c.deref-3.ensures.value in
    let are = subst (λ (ps : List FramePage). AreInFrames held c.gather.new.seat.view ps) pages_at (seen_held seat.view c.gather.new.seat.view sight held pages (pages_held locks shape seat stripes resting whole pages same)) in
    (held, are)

pub returns-in_err-checkpoint_frames-clause-steps : goal.returns-in_err-checkpoint_frames-clause-steps
returns-in_err-checkpoint_frames-clause-steps g c t wanted told s can =
    let old = g.H.Device.history c.args.host.now in
    let new = g.H.Device.history c.checkpoint_frames.new.host in
    let locks = c.args.locks.now in
    let seat = c.args.seat.now in
    let stripes = c.args.stripes.now in
    let shape = c.args.self.now.shape in
    let pages = c.gather.new.pages.items in
    let sight = c.gather.ensures.same in
    let resting = c.requires.stripes in
    let same = c.gather.ensures.pages in
    let whole = c.requires.seat in
    let held = dirty_held locks stripes seat.view in
    let pages_at : pages ≡ c.deref-2.result.now = sym c.deref-2.ensures.value in
    let order_at : c.gather.new.order.items ≡ c.deref-3.result.now = sym c.deref-3.ensures.value in
    let are = subst (λ (ps : List FramePage). AreInFrames held c.gather.new.seat.view ps) pages_at (seen_held seat.view c.gather.new.seat.view sight held pages (pages_held locks shape seat stripes resting whole pages same)) in
    let log = c.args.log.now in
    let named = next_mark c.args.self.now.shape c.args.self.now.mark log c.args.replay in
    let mark : c.next_mark-mark.result ≡ named = c.next_mark-mark.ensures ∙ ap (λ (k : Kept). next_mark k.shape k.mark log c.args.replay) c.self.view_is in
    let dirty = dirty_pages locks stripes seat.view in
    let order = c.gather.new.order.items in
    let is = order_of (dirty_frames locks stripes seat.view) pages order same c.gather.ensures.names c.gather.ensures.rising in
    whole_err wanted told old new log c.next_mark-mark.result named held dirty order c.deref-3.result.now s is order_at mark can
    c.checkpoint_frames.result c.from_residual.result c.from_residual.ensures.0 (c.checkpoint_frames.ensures.steps t held are wanted told s)

pub returns-clause-steps : goal.returns-clause-steps
returns-clause-steps g c t wanted told s can =
    let old = g.H.Device.history c.args.host.now in
    let new = g.H.Device.history c.checkpoint_frames.new.host in
    let locks = c.args.locks.now in
    let seat = c.args.seat.now in
    let stripes = c.args.stripes.now in
    let shape = c.args.self.now.shape in
    let pages = c.gather.new.pages.items in
    let sight = c.gather.ensures.same in
    let resting = c.requires.stripes in
    let same = c.gather.ensures.pages in
    let whole = c.requires.seat in
    let held = dirty_held locks stripes seat.view in
    let pages_at : pages ≡ c.deref-2.result.now = sym c.deref-2.ensures.value in
    let order_at : c.gather.new.order.items ≡ c.deref-3.result.now = sym c.deref-3.ensures.value in
    let are = subst (λ (ps : List FramePage). AreInFrames held c.gather.new.seat.view ps) pages_at (seen_held seat.view c.gather.new.seat.view sight held pages (pages_held locks shape seat stripes resting whole pages same)) in
    let log = c.args.log.now in
    let named = next_mark c.args.self.now.shape c.args.self.now.mark log c.args.replay in
    let mark : c.next_mark-mark.result ≡ named = c.next_mark-mark.ensures ∙ ap (λ (k : Kept). next_mark k.shape k.mark log c.args.replay) c.self.view_is in
    let dirty = dirty_pages locks stripes seat.view in
    let order = c.gather.new.order.items in
    let is = order_of (dirty_frames locks stripes seat.view) pages order same c.gather.ensures.names c.gather.ensures.rising in
    whole_ok wanted told old new log c.next_mark-mark.result named held dirty order c.deref-3.result.now s is order_at mark can
    {E = Failed} _ tt (c.in_ok-checkpoint_frames.ensures.steps t held are wanted told s)

pub returns-clause-ended : goal.returns-clause-ended
returns-clause-ended g c t may =
    let old = g.H.Device.history c.args.host.now in
    let new = g.H.Device.history c.checkpoint_frames.new.host in
    let locks = c.args.locks.now in
    let seat = c.args.seat.now in
    let stripes = c.args.stripes.now in
    let shape = c.args.self.now.shape in
    let pages = c.gather.new.pages.items in
    let sight = c.gather.ensures.same in
    let resting = c.requires.stripes in
    let same = c.gather.ensures.pages in
    let whole = c.requires.seat in
    let held = dirty_held locks stripes seat.view in
    let pages_at : pages ≡ c.deref-2.result.now = sym c.deref-2.ensures.value in
    let order_at : c.gather.new.order.items ≡ c.deref-3.result.now = sym c.deref-3.ensures.value in
    let are = subst (λ (ps : List FramePage). AreInFrames held c.gather.new.seat.view ps) pages_at (seen_held seat.view c.gather.new.seat.view sight held pages (pages_held locks shape seat stripes resting whole pages same)) in
    let log = c.args.log.now in
    let named = next_mark c.args.self.now.shape c.args.self.now.mark log c.args.replay in
    let mark : c.next_mark-mark.result ≡ named = c.next_mark-mark.ensures ∙ ap (λ (k : Kept). next_mark k.shape k.mark log c.args.replay) c.self.view_is in
    let dirty = dirty_pages locks stripes seat.view in
    let order = c.gather.new.order.items in
    let is = order_of (dirty_frames locks stripes seat.view) pages order same c.gather.ensures.names c.gather.ensures.rising in
    let may_there = subst (λ (ps : List PageId). MayCheckpoint log c.next_mark-mark.result held ps old.world) order_at
    (subst (λ (m : Mark). MayCheckpoint log m held order old.world) (sym mark)
    (may_order log named held dirty order is.same old.world may)) in
    ended_order named.shape.page_size log named held dirty order new.world is.same
    (subst (λ (m : Mark). IsEnded m.shape.page_size log m held order new.world) mark
    (subst (λ (ps : List PageId). IsEnded c.next_mark-mark.result.shape.page_size log c.next_mark-mark.result held ps new.world) (sym order_at) ((c.in_ok-checkpoint_frames.ensures.pages t held are).ended may_there)))

pub returns-clause-frames : goal.returns-clause-frames
returns-clause-frames g c = record {
  seat = c.checkpoint_frames.ensures.frames.seat;
  cleaned =
      let locks = c.args.locks.now in
      let seat = c.args.seat.now in
      let stripes = c.args.stripes.now in
      let shape = c.args.self.now.shape in
      let pages = c.gather.new.pages.items in
      let sight = c.gather.ensures.same in
      let resting = c.requires.stripes in
      let same = c.gather.ensures.pages in
      let whole = c.requires.seat in
      let pages_at : pages ≡ c.deref-2.result.now = sym c.deref-2.ensures.value in
      let cleans = cleans_seen pages seat.view c.gather.new.seat.view c.checkpoint_frames.new.seat.view sight
      (subst (λ (ps : List FramePage). CleansFrames ps c.gather.new.seat.view c.checkpoint_frames.new.seat.view) (sym pages_at) c.in_ok-checkpoint_frames.ensures.frames.clean) in
      are_cleaned locks shape seat stripes resting whole pages same c.checkpoint_frames.new.seat.view cleans;
  rests = λ reading.
      let locks = c.args.locks.now in
      let seat = c.args.seat.now in
      let stripes = c.args.stripes.now in
      let shape = c.args.self.now.shape in
      let pages = c.gather.new.pages.items in
      let sight = c.gather.ensures.same in
      let resting = c.requires.stripes in
      let same = c.gather.ensures.pages in
      let whole = c.requires.seat in
      let pages_at : pages ≡ c.deref-2.result.now = sym c.deref-2.ensures.value in
      let cleans = cleans_seen pages seat.view c.gather.new.seat.view c.checkpoint_frames.new.seat.view sight
      (subst (λ (ps : List FramePage). CleansFrames ps c.gather.new.seat.view c.checkpoint_frames.new.seat.view) (sym pages_at) c.in_ok-checkpoint_frames.ensures.frames.clean) in
      resting_after locks shape seat stripes resting whole pages same c.checkpoint_frames.new.seat c.checkpoint_frames.ensures.frames.seat cleans reading;
  none_stays = λ n stripe id at stays.
      let locks = c.args.locks.now in
      let seat = c.args.seat.now in
      let stripes = c.args.stripes.now in
      let shape = c.args.self.now.shape in
      let pages = c.gather.new.pages.items in
      let sight = c.gather.ensures.same in
      let resting = c.requires.stripes in
      let same = c.gather.ensures.pages in
      let whole = c.requires.seat in
      let pages_at : pages ≡ c.deref-2.result.now = sym c.deref-2.ensures.value in
      let cleans = cleans_seen pages seat.view c.gather.new.seat.view c.checkpoint_frames.new.seat.view sight
      (subst (λ (ps : List FramePage). CleansFrames ps c.gather.new.seat.view c.checkpoint_frames.new.seat.view) (sym pages_at) c.in_ok-checkpoint_frames.ensures.frames.clean) in
      stays_none locks shape seat stripes resting whole pages same c.checkpoint_frames.new.seat c.checkpoint_frames.ensures.frames.seat cleans n stripe at id stays;
  clean = λ t.
      let old = g.H.Device.history c.args.host.now in
      let new = g.H.Device.history c.checkpoint_frames.new.host in
      let locks = c.args.locks.now in
      let seat = c.args.seat.now in
      let stripes = c.args.stripes.now in
      let shape = c.args.self.now.shape in
      let pages = c.gather.new.pages.items in
      let sight = c.gather.ensures.same in
      let resting = c.requires.stripes in
      let same = c.gather.ensures.pages in
      let whole = c.requires.seat in
      let held = dirty_held locks stripes seat.view in
      let pages_at : pages ≡ c.deref-2.result.now = sym c.deref-2.ensures.value in
      let order_at : c.gather.new.order.items ≡ c.deref-3.result.now = sym c.deref-3.ensures.value in
      let are = subst (λ (ps : List FramePage). AreInFrames held c.gather.new.seat.view ps) pages_at (seen_held seat.view c.gather.new.seat.view sight held pages (pages_held locks shape seat stripes resting whole pages same)) in
      let shape_is : shape ≡ c.next_mark-mark.result.shape = sym (ap (λ (m : Mark). m.shape) c.next_mark-mark.ensures ∙ ap (λ (k : Kept). k.shape) c.self.view_is) in
      let cleans = cleans_seen pages seat.view c.gather.new.seat.view c.checkpoint_frames.new.seat.view sight
      (subst (λ (ps : List FramePage). CleansFrames ps c.gather.new.seat.view c.checkpoint_frames.new.seat.view) (sym pages_at) c.in_ok-checkpoint_frames.ensures.frames.clean) in
      let stores = subst (λ (sh : Shape). StoresPages sh.page_size held (names_of pages) old.world new.world) (sym shape_is)
      (subst (λ (ps : List PageId). StoresPages c.next_mark-mark.result.shape.page_size held ps old.world new.world) (sym order_at ∙ c.gather.ensures.names)
      ((c.in_ok-checkpoint_frames.ensures.pages t held are).stored)) in
      record {
        in_files = λ n stripe at was.
            clean_stored locks shape seat stripes resting whole pages same c.checkpoint_frames.new.seat c.checkpoint_frames.ensures.frames.seat cleans n stripe at old new stores was;
        read = λ n stripe at files was.
            clean_read locks shape seat stripes resting whole pages same c.checkpoint_frames.new.seat c.checkpoint_frames.ensures.frames.seat cleans n stripe at old new files stores was;
      };
  pages = λ t.
      let old = g.H.Device.history c.args.host.now in
      let new = g.H.Device.history c.checkpoint_frames.new.host in
      let locks = c.args.locks.now in
      let seat = c.args.seat.now in
      let stripes = c.args.stripes.now in
      let shape = c.args.self.now.shape in
      let pages = c.gather.new.pages.items in
      let sight = c.gather.ensures.same in
      let resting = c.requires.stripes in
      let same = c.gather.ensures.pages in
      let whole = c.requires.seat in
      let held = dirty_held locks stripes seat.view in
      let pages_at : pages ≡ c.deref-2.result.now = sym c.deref-2.ensures.value in
      let order_at : c.gather.new.order.items ≡ c.deref-3.result.now = sym c.deref-3.ensures.value in
      let are = subst (λ (ps : List FramePage). AreInFrames held c.gather.new.seat.view ps) pages_at (seen_held seat.view c.gather.new.seat.view sight held pages (pages_held locks shape seat stripes resting whole pages same)) in
      let shape_is : shape ≡ c.next_mark-mark.result.shape = sym (ap (λ (m : Mark). m.shape) c.next_mark-mark.ensures ∙ ap (λ (k : Kept). k.shape) c.self.view_is) in
      let cleans = cleans_seen pages seat.view c.gather.new.seat.view c.checkpoint_frames.new.seat.view sight
      (subst (λ (ps : List FramePage). CleansFrames ps c.gather.new.seat.view c.checkpoint_frames.new.seat.view) (sym pages_at) c.in_ok-checkpoint_frames.ensures.frames.clean) in
      let stores = subst (λ (sh : Shape). StoresPages sh.page_size held (names_of pages) old.world new.world) (sym shape_is)
      (subst (λ (ps : List PageId). StoresPages c.next_mark-mark.result.shape.page_size held ps old.world new.world) (sym order_at ∙ c.gather.ensures.names)
      ((c.in_ok-checkpoint_frames.ensures.pages t held are).stored)) in
      λ n stripe id bytes at own was.
      page_there locks shape seat stripes resting whole pages same c.checkpoint_frames.new.seat c.checkpoint_frames.ensures.frames.seat cleans n stripe at old.world new.world stores id own bytes was;
  alone = λ t.
      let old = g.H.Device.history c.args.host.now in
      let new = g.H.Device.history c.checkpoint_frames.new.host in
      let locks = c.args.locks.now in
      let seat = c.args.seat.now in
      let stripes = c.args.stripes.now in
      let shape = c.args.self.now.shape in
      let pages = c.gather.new.pages.items in
      let sight = c.gather.ensures.same in
      let resting = c.requires.stripes in
      let same = c.gather.ensures.pages in
      let whole = c.requires.seat in
      let held = dirty_held locks stripes seat.view in
      let pages_at : pages ≡ c.deref-2.result.now = sym c.deref-2.ensures.value in
      let order_at : c.gather.new.order.items ≡ c.deref-3.result.now = sym c.deref-3.ensures.value in
      let are = subst (λ (ps : List FramePage). AreInFrames held c.gather.new.seat.view ps) pages_at (seen_held seat.view c.gather.new.seat.view sight held pages (pages_held locks shape seat stripes resting whole pages same)) in
      let shape_is : shape ≡ c.next_mark-mark.result.shape = sym (ap (λ (m : Mark). m.shape) c.next_mark-mark.ensures ∙ ap (λ (k : Kept). k.shape) c.self.view_is) in
      let stores = subst (λ (sh : Shape). StoresPages sh.page_size held (names_of pages) old.world new.world) (sym shape_is)
      (subst (λ (ps : List PageId). StoresPages c.next_mark-mark.result.shape.page_size held ps old.world new.world) (sym order_at ∙ c.gather.ensures.names)
      ((c.in_ok-checkpoint_frames.ensures.pages t held are).stored)) in
      λ part none. stores.alone part (none_in_order part (dirty_frames locks stripes seat.view) pages same none);
}
