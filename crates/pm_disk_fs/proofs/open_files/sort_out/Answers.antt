-- Each file is put to those of its kind.
use Rattle.std.proofs.Common.{[], ◌∷◌, ◌∙◌, ap, arith, length-append}
use Rattle.pm_disk_fs.specs.OpenFiles.{is_segment, is_pages, is_other}
use Rattle.pm_disk_fs.proofs.SortingOut.{segment_more, pages_more, other_more}
use Rattle.pm_disk_fs.proofs.open_files.sort_out.Goals as goal

pub loop-file-preserved-in-Segment : goal.loop-file-preserved-in-Segment
loop-file-preserved-in-Segment g c =
    let was = c.loop-file.invariant in
    record {
      segments_room = omega (arith, was.segments_room, c.push_reserved.ensures.len, length-append c.loop-file.yielded (c.in-Some.file ∷ []));
      segments_capacity = c.push_reserved.ensures.capacity ∙ was.segments_capacity;
      pages_room = omega (arith, was.pages_room, length-append c.loop-file.yielded (c.in-Some.file ∷ []));
      pages_capacity = was.pages_capacity;
      others_room = omega (arith, was.others_room, length-append c.loop-file.yielded (c.in-Some.file ∷ []));
      others_capacity = was.others_capacity;
      sorted = segment_more c.loop-file.yielded c.in-Some.file c.loop-file.segments.files.items c.loop-file.pages.files.items c.loop-file.others.files.items c.push_reserved.new.self.items was.sorted
          c.in-Segment.field-0 c.in-Segment.is c.push_reserved.ensures.items;
    }

pub loop-file-preserved-in-Pages : goal.loop-file-preserved-in-Pages
loop-file-preserved-in-Pages g c =
    let was = c.loop-file.invariant in
    record {
      segments_room = omega (arith, was.segments_room, length-append c.loop-file.yielded (c.in-Some.file ∷ []));
      segments_capacity = was.segments_capacity;
      pages_room = omega (arith, was.pages_room, c.push_reserved-in-Pages.ensures.len, length-append c.loop-file.yielded (c.in-Some.file ∷ []));
      pages_capacity = c.push_reserved-in-Pages.ensures.capacity ∙ was.pages_capacity;
      others_room = omega (arith, was.others_room, length-append c.loop-file.yielded (c.in-Some.file ∷ []));
      others_capacity = was.others_capacity;
      sorted = pages_more c.loop-file.yielded c.in-Some.file c.loop-file.segments.files.items c.loop-file.pages.files.items c.loop-file.others.files.items c.push_reserved-in-Pages.new.self.items was.sorted
          c.in-Pages.field-0 c.in-Pages.is c.push_reserved-in-Pages.ensures.items;
    }

pub loop-file-preserved-in-Marks : goal.loop-file-preserved-in-Marks
loop-file-preserved-in-Marks g c =
    let was = c.loop-file.invariant in
    record {
      segments_room = omega (arith, was.segments_room, length-append c.loop-file.yielded (c.in-Some.file ∷ []));
      segments_capacity = was.segments_capacity;
      pages_room = omega (arith, was.pages_room, length-append c.loop-file.yielded (c.in-Some.file ∷ []));
      pages_capacity = was.pages_capacity;
      others_room = omega (arith, was.others_room, c.push_reserved-in-Marks.ensures.len, length-append c.loop-file.yielded (c.in-Some.file ∷ []));
      others_capacity = c.push_reserved-in-Marks.ensures.capacity ∙ was.others_capacity;
      sorted = other_more c.loop-file.yielded c.in-Some.file c.loop-file.segments.files.items c.loop-file.pages.files.items c.loop-file.others.files.items c.push_reserved-in-Marks.new.self.items was.sorted
          (ap is_segment c.in-Marks.is) (ap is_pages c.in-Marks.is) (ap is_other c.in-Marks.is) c.push_reserved-in-Marks.ensures.items;
    }

pub loop-file-preserved : goal.loop-file-preserved
loop-file-preserved g c =
    let was = c.loop-file.invariant in
    record {
      segments_room = omega (arith, was.segments_room, length-append c.loop-file.yielded (c.in-Some.file ∷ []));
      segments_capacity = was.segments_capacity;
      pages_room = omega (arith, was.pages_room, length-append c.loop-file.yielded (c.in-Some.file ∷ []));
      pages_capacity = was.pages_capacity;
      others_room = omega (arith, was.others_room, c.push_reserved-in-Config.ensures.len, length-append c.loop-file.yielded (c.in-Some.file ∷ []));
      others_capacity = c.push_reserved-in-Config.ensures.capacity ∙ was.others_capacity;
      sorted = other_more c.loop-file.yielded c.in-Some.file c.loop-file.segments.files.items c.loop-file.pages.files.items c.loop-file.others.files.items c.push_reserved-in-Config.new.self.items was.sorted
          (ap is_segment c.in-Config.is) (ap is_pages c.in-Config.is) (ap is_other c.in-Config.is) c.push_reserved-in-Config.ensures.items;
    }
