-- The look at a log before its records are read: what it is, and what it says beside them.
use Rattle.std.specs.Prelude.{◌≡◌, ◌||◌, ◌++◌, ℕ, Bool, true, false, List, [], length, nat_le}
use Rattle.std.specs.Prelude.{nat_eq, Option, Some, None, Ok}
use Rattle.std.specs.List.{list_any}
use Rattle.qa_qlog.specs.Cuts.{Uncut, cuts_of, skeleton_of}
use Rattle.qa_qlog.specs.Kinds.{kind_of}
use Rattle.qa_qlog.specs.Marks.{byte_of}
use Rattle.qa_qlog.specs.Texts.{Numbered, Read, line_feed, mark_of, put_text, texts_by}
use Rattle.qa_qlog.specs.declared.cutter.Skeleton.{Skeleton}
use Rattle.qa_qlog.specs.declared.kinds.Kind.{Kind}
use Rattle.qa_qlog.specs.declared.kinds.Kind.TheVariants.{Document, Netlog}
use Rattle.qa_logs.specs.Cutting as cutting
use Rattle.qa_logs.specs.Cutting.{Given}
use Rattle.qa_logs.specs.declared.cutting.Cutter.{Cutter}
use Rattle.qa_logs.specs.declared.cutting.Cutter.TheVariants as cutters
use Rattle.qa_logs.specs.declared.cutting.Form.{Form}
use Rattle.qa_logs.specs.declared.cutting.Form.TheVariants as form
use Rattle.qa_logs.specs.declared.cutting.NoTaker.{NoTaker}
use Rattle.qa_logs.specs.declared.cutting.Wants.{Wants}
use Rattle.qa_logs.specs.declared.cutting.Wants.TheVariants.{More, Nothing}
use Rattle.qa_logs.specs.declared.log.Log.{Log}
use Rattle.qa_logs.specs.declared.opening.First.{First}
use Rattle.qa_logs.specs.declared.opening.Found.{Found}
use Rattle.qa_logs.specs.declared.opening.Kept.{Kept}

-- ---- what a log is

-- a log of this kind that begins with these bytes is written in this form
abbrev pub IsFormOf : Kind → List ℕ → Form → Type 0
IsFormOf Document bytes f = f ≡ form.Document
IsFormOf Netlog bytes f = ⊥
IsFormOf _ bytes (form.Texts mark) = byte_of mark ≡ mark_of bytes
IsFormOf _ bytes form.Document = ⊥

abbrev pub IsForm : List ℕ → Form → Type 0
IsForm bytes f = (kind : Kind) × (kind_of bytes ≡ Ok kind) × IsFormOf kind bytes f

-- how much of a log decides what it is, if its first line is longer: 1 MiB
abbrev pub longest_beginning : ℕ
longest_beginning = 1048576

-- the bytes, the last of which are this part, are enough to know what the log is
abbrev pub is_enough : List ℕ → List ℕ → Bool
is_enough part bytes =
    list_any (λ b. nat_eq b line_feed) part || nat_le longest_beginning (length bytes)

-- ---- its first text, or what is beside its records

abbrev pub IsKept : Given → Option Kept → Type 0
IsKept t None = ⊥
IsKept t (Some kept) =
    (kept.bytes.items ≡ t.bytes) × (kept.place ≡ t.place) × (kept.is_whole ≡ t.is_whole)

-- the first text is kept, and no other is wanted
abbrev pub KeepsText : First → Given → Wants → First → Type 0
KeepsText old t wants new = (wants ≡ Nothing) × IsKept t new.text

-- all records are wanted, and none is kept
abbrev pub PassesRecord : NoTaker → Given → Wants → NoTaker → Type 0
PassesRecord old t wants new = wants ≡ More

-- the next part of a log of this form came
abbrev pub FeedsBy : Form → List ℕ → Found → Wants → Found → Type 0
FeedsBy (form.Texts mark) part old wants new =
    cutting.Feeds KeepsText old.parts part old.first new.parts new.first wants
FeedsBy form.Document part old wants new = (before after : NoTaker)
    × cutting.Feeds PassesRecord old.parts part before new.parts after wants

abbrev pub FeedsFound : List ℕ → Found → Wants → Found → Type 0
FeedsFound part old wants new = (new.form ≡ old.form) × FeedsBy old.form part old wants new

-- nothing of a log of this form was read
pub record Begins (f : Form) (found : Found) : Type 0 where
  pub form : found.form ≡ f
  pub parts : found.parts ≡ Some (cutting.fresh f)
  pub text : found.first.text ≡ None

-- what the log is was found by its beginning, which was taken as its first part
pub record IsFoundBy (bytes : List ℕ) (wants : Wants) (found : Found) : Type 0 where
  pub form : Form
  pub is_form : IsForm bytes form
  pub begun : Found
  pub begins : Begins form begun
  pub feeds : FeedsFound bytes begun wants found

-- ---- part after part

-- the log so far, as long as it is not known what it is; and then what it is, and what was found
pub record Opened : Type 0 where
  pub beginning : List ℕ
  pub found : Option Found

abbrev pub unopened : Opened
unopened = record { beginning = []; found = None }

abbrev pub FeedsBeginning : Bool → List ℕ → Wants → Opened → Type 0
FeedsBeginning true bytes wants new =
    (found : Found) × (new.found ≡ Some found) × IsFoundBy bytes wants found
FeedsBeginning false bytes wants new =
    (wants ≡ More) × (new ≡ record { beginning = bytes; found = None })

-- the next part came
abbrev pub FeedsAt : Option Found → List ℕ → Opened → Wants → Opened → Type 0
FeedsAt None part old wants new =
    FeedsBeginning (is_enough part (old.beginning ++ part)) (old.beginning ++ part) wants new
FeedsAt (Some before) part old wants new =
    (found : Found) × (new.found ≡ Some found) × FeedsFound part before wants found

abbrev pub Feeds : Opened → List ℕ → Wants → Opened → Type 0
Feeds old part wants new = FeedsAt old.found part old wants new

-- ---- the end

-- what is beside the records of a log that is one object, and where it is torn off
abbrev pub HasSkeleton : Option Cutter → Skeleton → Type 0
HasSkeleton parts skeleton = (log : Uncut) × (parts ≡ Some (cutters.Document log))
    × (skeleton_of log.state ≡ Ok (skeleton.bytes.items, skeleton.torn_at))

-- the log has this beside its records
abbrev pub IsBeside : Skeleton → Log → Type 0
IsBeside skeleton log =
    (log.head.items ≡ skeleton.bytes.items) × (log.torn_at ≡ skeleton.torn_at)

abbrev pub IsSkeleton : Option Skeleton → Log → Type 0
IsSkeleton None log = ⊥
IsSkeleton (Some skeleton) log = IsBeside skeleton log

-- its first text is the head
abbrev pub IsFirst : Option Kept → Log → Type 0
IsFirst None log = ⊥
IsFirst (Some kept) log = (log.head.items ≡ kept.bytes.items) × (log.torn_at ≡ None)

abbrev pub EndsAsText : Option Cutter → First → Log → Type 0
EndsAsText parts first log = (last : First)
    × cutting.Ends KeepsText parts first last × IsFirst last.text log

abbrev pub EndsBy : Form → Found → Log → Type 0
EndsBy (form.Texts mark) found log = EndsAsText found.parts found.first log
EndsBy form.Document found log = (skeleton : Skeleton)
    × HasSkeleton found.parts skeleton × IsBeside skeleton log

abbrev pub EndsFound : Found → Log → Type 0
EndsFound found log = (log.form ≡ found.form) × EndsBy found.form found log

-- the log ended, or no more of it was wanted: this is what it says beside its records
abbrev pub EndsAt : Option Found → List ℕ → Log → Type 0
EndsAt None bytes log =
    (found : Found) × (wants : Wants) × IsFoundBy bytes wants found × EndsFound found log
EndsAt (Some found) bytes log = EndsFound found log

abbrev pub Ends : Opened → Log → Type 0
Ends old log = EndsAt old.found old.beginning log

-- ---- the whole

-- what a log of this form and of these bytes says beside its records: of many texts the first one,
-- and of one object its skeleton, and where it is torn off
abbrev pub SaysBeside : Form → List ℕ → Log → Type 0
SaysBeside (form.Texts mark) bytes log = (text : Numbered) × (more : Read)
    × (texts_by (byte_of mark) bytes ≡ put_text text more) × (log.head.items ≡ text.bytes)
    × (log.torn_at ≡ None)
SaysBeside form.Document bytes log = (cuts_of bytes).1 ≡ Ok (log.head.items, log.torn_at)
