-- The records of an outbox, appended one after the other.
use Rattle.std.proofs.Common.{◌≡◌, ℕ, ◌+◌, ◌^◌, ◌<◌, ◌≤◌, List, [], ◌∷◌, ◌++◌, length, take, drop, get_or, Result, Ok, refl, sym, ap, ◌∙◌, subst, arith, append_assoc, append-nil, length-append}
use Rattle.std.specs.Int.{w32, from_le_bytes}
use Rattle.std.specs.Prelude.{OnOk}
use Rattle.std.proofs.lemmas.List.{take_at, drop_at}
use Rattle.std.proofs.lemmas.Nat.{from_le_bytes-to_le_bytes_4}
use Rattle.pm_disk.specs.Moments.{History, IsHistory}
use Rattle.pm_disk.specs.declared.failed.Failed.{Failed}
use Rattle.pm_frame.specs.Frames.{Frame}
use Rattle.pm_frame.proofs.Bytes.{cells}
use Rattle.pm_records.specs.Operations.{Operation, IsOperation, AreOperations, IsLogged, SpellRecords, operation_head, operation_bytes, operations_bytes, record_head, record_bytes, records_bytes}
use Rattle.pm_segments.specs.Ends.{LogEnd, EndsThere}
use Rattle.pm_engine.specs.AppendRuns.{AppendsAll}
use Rattle.pm_engine.specs.OutboxLogs.{SpellOperationRecords, records_of, numbers_of, SpellNumbers}
use Rattle.pm_engine.proofs.AppendChains.{appends_none, appends_then, appends_part}

-- ---- bytes

pub head_long : (line len : ℕ) → length (operation_head line len) ≡ 8
unfolding operation_head
head_long line len = refl

pub record_head_long : (kind len : ℕ) → length (record_head kind len) ≡ 5
unfolding record_head
record_head_long kind len = refl

-- the number that a head says
pub len_said : (line len : ℕ) (more : List ℕ) → len < 2 ^ 32 → from_le_bytes w32 (cells 4 4 (operation_head line len ++ more)) ≡ len
unfolding operation_head
len_said line len more small = from_le_bytes-to_le_bytes_4 len small

pub line_said : (line len : ℕ) (more : List ℕ) → line < 2 ^ 32 → from_le_bytes w32 (cells 0 4 (operation_head line len ++ more)) ≡ line
unfolding operation_head
line_said line len more small = from_le_bytes-to_le_bytes_4 line small

pub payload_said : (kind len : ℕ) (more : List ℕ) → len < 2 ^ 32 → from_le_bytes w32 (cells 1 4 (record_head kind len ++ more)) ≡ len
unfolding record_head
payload_said kind len more small = from_le_bytes-to_le_bytes_4 len small

pub kind_said : (kind len : ℕ) (more : List ℕ) → get_or (record_head kind len ++ more) 0 0 ≡ kind
unfolding record_head
kind_said kind len more = refl

-- an operation at the front of bytes
module _ (bytes : List ℕ) (o : Operation) (more : List ℕ) (is : IsOperation o) (e : bytes ≡ operation_bytes o ++ more) where
  abbrev pub records_long : ℕ
  records_long = length (records_bytes o.records)

  pub headed : bytes ≡ operation_head o.line records_long ++ (records_bytes o.records ++ more)
  unfolding operation_bytes
  headed = e ∙ append_assoc (operation_head o.line records_long) (records_bytes o.records) more

  pub records_small : records_long < 2 ^ 32
  records_small = omega (arith, is.short)

  pub after_head : drop 8 bytes ≡ records_bytes o.records ++ more
  after_head = ap (drop 8) headed ∙ drop_at (operation_head o.line records_long) (records_bytes o.records ++ more) 8 (head_long o.line records_long)

  pub whole_long : length bytes ≡ 8 + (records_long + length more)
  whole_long = omega (arith, ap length headed, length-append (operation_head o.line records_long) (records_bytes o.records ++ more), head_long o.line records_long, length-append (records_bytes o.records) more)

  pub records_front : take records_long (drop 8 bytes) ≡ records_bytes o.records
  records_front = ap (take records_long) after_head ∙ take_at (records_bytes o.records) more records_long refl

  pub records_back : drop records_long (drop 8 bytes) ≡ more
  records_back = ap (drop records_long) after_head ∙ drop_at (records_bytes o.records) more records_long refl

-- a record there
module _ (bytes : List ℕ) (f : Frame) (more : List ℕ) (is : IsLogged f) (e : bytes ≡ record_bytes f ++ more) where
  abbrev pub payload_long : ℕ
  payload_long = length f.payload

  pub record_headed : bytes ≡ record_head f.kind payload_long ++ (f.payload ++ more)
  unfolding record_bytes
  record_headed = e ∙ append_assoc (record_head f.kind payload_long) f.payload more

  pub payload_small : payload_long < 2 ^ 32
  payload_small = omega (arith, is.short)

  pub after_record_head : drop 5 bytes ≡ f.payload ++ more
  after_record_head = ap (drop 5) record_headed ∙ drop_at (record_head f.kind payload_long) (f.payload ++ more) 5 (record_head_long f.kind payload_long)

  pub record_long : length bytes ≡ 5 + (payload_long + length more)
  record_long = omega (arith, ap length record_headed, length-append (record_head f.kind payload_long) (f.payload ++ more), record_head_long f.kind payload_long, length-append f.payload more)

  pub kind_first : get_or bytes 0 0 ≡ f.kind
  kind_first = ap (λ (bs : List ℕ). get_or bs 0 0) record_headed ∙ kind_said f.kind payload_long (f.payload ++ more)

  pub payload_front : take payload_long (drop 5 bytes) ≡ f.payload
  payload_front = ap (take payload_long) after_record_head ∙ take_at f.payload more payload_long refl

  pub payload_back : drop payload_long (drop 5 bytes) ≡ more
  payload_back = ap (drop payload_long) after_record_head ∙ drop_at f.payload more payload_long refl

-- ---- what stands at the front of bytes that are left

pub record FrontOperation (rest : List ℕ) (left : List Frame) : Type 0 where
  pub operation : Operation
  pub more : List ℕ
  pub is : IsOperation operation
  pub bytes : rest ≡ operation_bytes operation ++ more
  pub others : List Frame
  pub split : left ≡ operation.records ++ others
  pub later : SpellOperationRecords more others

pub front_operation : (rest : List ℕ) (left : List Frame) → 0 < length rest → SpellOperationRecords rest left → FrontOperation rest left
front_operation rest left some hand = by hand.operations hand.are hand.bytes_are hand.frames_are
  where
    by : (os : List Operation) → AreOperations os → rest ≡ operations_bytes os → left ≡ records_of os → FrontOperation rest left
    by [] are bytes frames = absurd (omega (arith, some, ap length bytes))
    by (o ∷ os) are bytes frames = record {
      operation = o;
      more = operations_bytes os;
      is = are.0;
      bytes = bytes;
      others = records_of os;
      split = frames;
      later = record { operations = os; are = are.1; bytes_are = refl; frames_are = refl };
    }

pub none_handed : (rest : List ℕ) (left : List Frame) → length rest ≡ 0 → SpellOperationRecords rest left → left ≡ []
none_handed rest left none hand = by hand.operations hand.are hand.bytes_are hand.frames_are
  where
    by : (os : List Operation) → AreOperations os → rest ≡ operations_bytes os → left ≡ records_of os → left ≡ []
    by [] are bytes frames = frames
    by (o ∷ os) are bytes frames = absurd (omega (arith, whole_long rest o (operations_bytes os) are.0 bytes, none))

pub record FrontRecord (rest : List ℕ) (left : List Frame) : Type 0 where
  pub frame : Frame
  pub more : List ℕ
  pub is : IsLogged frame
  pub bytes : rest ≡ record_bytes frame ++ more
  pub others : List Frame
  pub split : left ≡ frame ∷ others
  pub later : SpellRecords more others

pub front_record : (rest : List ℕ) (left : List Frame) → 0 < length rest → SpellRecords rest left → FrontRecord rest left
front_record rest [] some spell = absurd (omega (arith, some, ap length spell.1))
front_record rest (f ∷ fs) some spell = record {
  frame = f;
  more = records_bytes fs;
  is = spell.0.0;
  bytes = spell.1;
  others = fs;
  split = refl;
  later = (spell.0.1, refl);
}

pub none_spelled : (rest : List ℕ) (left : List Frame) → length rest ≡ 0 → SpellRecords rest left → left ≡ []
none_spelled rest [] none spell = refl
none_spelled rest (f ∷ fs) none spell = absurd (omega (arith, record_long rest f (records_bytes fs) spell.0.0 spell.1, none))

-- ---- a loop over them

-- of these frames so many were appended, and the bytes that are left have the others
pub record AppendsSome (Has : List ℕ → List Frame → Type 0) (tells : Type 0) (old now : History) (before log : LogEnd) (rest : List ℕ) (frames : List Frame) : Type 0 where
  pub done : List Frame
  pub left : List Frame
  pub whole : frames ≡ done ++ left
  pub others : Has rest left
  pub appends : AppendsAll {T = Unit {0}} {E = Failed} tells old now (Ok tt) before log done

pub some_begin : (Has : List ℕ → List Frame → Type 0) (tells : Type 0) (old : History) (log : LogEnd) (rest : List ℕ) (frames : List Frame) → (tells → IsHistory old) → (tells → EndsThere log old.world) → Has rest frames
    → AppendsSome Has tells old old log log rest frames
some_begin Has tells old log rest frames sound ends has = record {
  done = [];
  left = frames;
  whole = refl;
  others = has;
  appends = appends_none tells old log sound ends;
}

module _ (Has : List ℕ → List Frame → Type 0) (tells : Type 0) (old mid : History) (before log : LogEnd) (rest : List ℕ) (frames : List Frame) (so_far : AppendsSome Has tells old mid before log rest frames) where
  -- these are the next
  pub some_more : (new : History) (now : LogEnd) (after : List ℕ) (fs others : List Frame) → so_far.left ≡ fs ++ others → Has after others → AppendsAll {T = Unit {0}} {E = Failed} tells mid new (Ok tt) log now fs
      → AppendsSome Has tells old new before now after frames
  some_more new now after fs others split has appends = record {
    done = so_far.done ++ fs;
    left = others;
    whole = so_far.whole ∙ ap (λ (l : List Frame). so_far.done ++ l) split ∙ sym (append_assoc so_far.done fs others);
    others = has;
    appends = appends_then tells old mid new (Ok tt) (Ok tt) before log now so_far.done fs (λ P ok. ok) so_far.appends appends;
  }

  -- all were
  pub some_all : so_far.left ≡ [] → AppendsAll {T = Unit {0}} {E = Failed} tells old mid (Ok tt) before log frames
  some_all none =
      subst (AppendsAll {T = Unit {0}} {E = Failed} tells old mid (Ok tt) before log) (sym (so_far.whole ∙ ap (λ (l : List Frame). so_far.done ++ l) none ∙ append-nil so_far.done)) so_far.appends

  -- the append of the next failed
  pub some_broke : {T E S F : Type 0} (result : Result T E) (answer : Result S F) (new : History) (now : LogEnd) (fs others : List Frame) → so_far.left ≡ fs ++ others → ((P : Type 0) → OnOk answer P)
      → AppendsAll {T = T} {E = E} tells mid new result log now fs → AppendsAll {T = S} {E = F} tells old new answer before now frames
  some_broke {T} {E} {S} {F} result answer new now fs others split fails appends =
      let all : (so_far.done ++ fs) ++ others ≡ frames = append_assoc so_far.done fs others ∙ sym (so_far.whole ∙ ap (λ (l : List Frame). so_far.done ++ l) split) in
      subst (AppendsAll {T = S} {E = F} tells old new answer before now) all
      (appends_part tells old new answer before now (so_far.done ++ fs) others fails
      (appends_then tells old mid new result answer before log now so_far.done fs (λ P holds. fails P) so_far.appends appends))

-- ---- the numbers of operations

-- so many of these numbers were put into an order, and the bytes that are left have the others
pub record NotesSome (rest numbers was now : List ℕ) : Type 0 where
  pub done : List ℕ
  pub left : List ℕ
  pub whole : numbers ≡ done ++ left
  pub others : SpellNumbers rest left
  pub is : now ≡ was ++ done

-- what stands at the front
pub record FrontNumber (rest left : List ℕ) : Type 0 where
  pub operation : Operation
  pub more : List ℕ
  pub is : IsOperation operation
  pub bytes : rest ≡ operation_bytes operation ++ more
  pub others : List ℕ
  pub split : left ≡ operation.line ∷ others
  pub later : SpellNumbers more others

pub front_number : (rest left : List ℕ) → 0 < length rest → SpellNumbers rest left → FrontNumber rest left
front_number rest left some spell = by spell.operations spell.are spell.bytes_are spell.numbers_are
  where
    by : (os : List Operation) → AreOperations os → rest ≡ operations_bytes os → left ≡ numbers_of os → FrontNumber rest left
    by [] are bytes numbers = absurd (omega (arith, some, ap length bytes))
    by (o ∷ os) are bytes numbers = record {
      operation = o;
      more = operations_bytes os;
      is = are.0;
      bytes = bytes;
      others = numbers_of os;
      split = numbers;
      later = record { operations = os; are = are.1; bytes_are = refl; numbers_are = refl };
    }

none_numbered : (rest left : List ℕ) → length rest ≡ 0 → SpellNumbers rest left → left ≡ []
none_numbered rest left none spell = by spell.operations spell.are spell.bytes_are spell.numbers_are
  where
    by : (os : List Operation) → AreOperations os → rest ≡ operations_bytes os → left ≡ numbers_of os → left ≡ []
    by [] are bytes numbers = numbers
    by (o ∷ os) are bytes numbers = absurd (omega (arith, whole_long rest o (operations_bytes os) are.0 bytes, none))

pub notes_begin : (rest numbers was : List ℕ) → SpellNumbers rest numbers → NotesSome rest numbers was was
notes_begin rest numbers was spell = record { done = []; left = numbers; whole = refl; others = spell; is = sym (append-nil was) }

-- there is room for one more
pub notes_room : (rest numbers was now : List ℕ) (capacity : ℕ) → 0 < length rest → length was + length numbers ≤ capacity → NotesSome rest numbers was now → length now < capacity
notes_room rest numbers was now capacity some fits so_far =
    let front = front_number rest so_far.left some so_far.others in
    omega (arith, fits, ap length so_far.whole, length-append so_far.done so_far.left, ap length front.split, ap length so_far.is, length-append was so_far.done)

module _ (rest numbers was now : List ℕ) (some : 0 < length rest) (so_far : NotesSome rest numbers was now) where
  front : FrontNumber rest so_far.left
  front = front_number rest so_far.left some so_far.others

  -- the next one was
  module _ (number : ℕ) (then_now after : List ℕ) (number_is : (o : Operation) (more : List ℕ) → IsOperation o → rest ≡ operation_bytes o ++ more → number ≡ o.line) (pushed : then_now ≡ now ++ number ∷ []) where
    pushed_is : then_now ≡ was ++ (so_far.done ++ front.operation.line ∷ [])
    pushed_is = pushed ∙ (λ i. so_far.is i ++ number_is front.operation front.more front.is front.bytes i ∷ []) ∙ append_assoc was so_far.done (front.operation.line ∷ [])

    split_is : numbers ≡ (so_far.done ++ front.operation.line ∷ []) ++ front.others
    split_is = so_far.whole ∙ ap (λ (l : List ℕ). so_far.done ++ l) front.split ∙ sym (append_assoc so_far.done (front.operation.line ∷ []) front.others)

    pub notes_more : ((o : Operation) (more : List ℕ) → IsOperation o → rest ≡ operation_bytes o ++ more → after ≡ more) → NotesSome after numbers was then_now
    notes_more after_is = record {
      done = so_far.done ++ front.operation.line ∷ [];
      left = front.others;
      whole = split_is;
      others = subst (λ (bs : List ℕ). SpellNumbers bs front.others) (sym (after_is front.operation front.more front.is front.bytes)) front.later;
      is = pushed_is;
    }

-- all were
pub notes_all : (rest numbers was now : List ℕ) → length rest ≡ 0 → NotesSome rest numbers was now → now ≡ was ++ numbers
notes_all rest numbers was now none so_far =
    let done_is : numbers ≡ so_far.done = so_far.whole ∙ ap (λ (l : List ℕ). so_far.done ++ l) (none_numbered rest so_far.left none so_far.others) ∙ append-nil so_far.done in
    so_far.is ∙ ap (λ (l : List ℕ). was ++ l) (sym done_is)
