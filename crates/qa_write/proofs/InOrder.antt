-- Members that are put into an object in the order of their keys.
use Rattle.std.proofs.Common.{◌≡◌, ℕ, List, [], ◌∷◌, ◌++◌, Option, Some, None, MatchOption, Less, Greater, nat_cmp, refl, sym, ap, ◌∙◌, append-nil}
use Rattle.std.proofs.lemmas.Cmp.{nat_list_cmp_total}
use Rattle.std.specs.Cmp.Lexicographic.{slice_cmp}
use Rattle.std.specs.Ordering.{ordering_reverse}
use Rattle.serde_json.specs.Data.{Data, Members, no_members, member, put}
use Rattle.qa_base.specs.declared.key.Key.{Key}
use Rattle.qa_base.specs.declared.key.Key.TheVariants as key
use Rattle.qa_base.specs.declared.rule.Field.{Field}
use Rattle.qa_base.specs.values.Names.{key_name}
use Rattle.qa_format.specs.format.Written.{Pairs, members, reported, integer}

-- the text comes before the other, in the order of their bytes
abbrev pub IsBefore : List ℕ → List ℕ → Type 0
IsBefore k l = slice_cmp nat_cmp k l ≡ Less

-- each key of the pairs comes before this text
abbrev pub AreBefore : Pairs → List ℕ → Type 0
AreBefore [] k = Unit {0}
AreBefore (pair ∷ pairs) k = IsBefore (key_name pair.0) k × AreBefore pairs k

AreBefore-snoc : (pairs : Pairs) (k : Key) (d : Data) (l : List ℕ) → AreBefore pairs l → IsBefore (key_name k) l → AreBefore (pairs ++ (k, d) ∷ []) l
AreBefore-snoc [] k d l before last = (last, tt)
AreBefore-snoc (pair ∷ pairs) k d l before last = (before.0, AreBefore-snoc pairs k d l before.1 last)

-- a key behind all others goes in last
put_behind : (pairs : Pairs) (k : Key) (d : Data) → AreBefore pairs (key_name k) → put (key_name k) d (members pairs) ≡ members (pairs ++ (k, d) ∷ [])
put_behind [] k d before = refl
put_behind (pair ∷ pairs) k d before =
    let behind : slice_cmp nat_cmp (key_name k) (key_name pair.0) ≡ Greater =
    nat_list_cmp_total.antisymm (key_name k) (key_name pair.0) ∙ ap ordering_reverse before.0 in
    rw behind (ap (member (key_name pair.0) pair.1) (put_behind pairs k d before.1))

-- the members are those of the pairs, and what comes behind this text comes behind all their keys
pub record Holds (last : List ℕ) (pairs : Pairs) (ms : Members) : Type 0 where
  pub same : ms ≡ members pairs
  pub before : (l : List ℕ) → IsBefore last l → AreBefore pairs l

pub holds_none : Holds [] [] no_members
holds_none = record { same = refl; before = λ l later. tt }

-- the member at a later key is put behind the others
pub holds_put : {last : List ℕ} {pairs : Pairs} {old : Members} (new : Members) (k : Key) (d : Data)
    → Holds last pairs old → IsBefore last (key_name k) → new ≡ put (key_name k) d old → Holds (key_name k) (pairs ++ (k, d) ∷ []) new
holds_put {last} {pairs} {old} new k d holds later is =
    record {
      same = is ∙ ap (put (key_name k) d) holds.same ∙ put_behind pairs k d (holds.before (key_name k) later);
      before = λ l h. AreBefore-snoc pairs k d l (holds.before l (nat_list_cmp_total.trans last (key_name k) l later h)) h;
    }

-- and so is a value that is reported
pub holds_reported : {last : List ℕ} {pairs : Pairs} {old : Members} (new : Members) (f : Field) (o : Option ℕ)
    → Holds last pairs old → IsBefore last (key_name (key.Metric f)) → MatchOption o (new ≡ old) (λ n. new ≡ put (key_name (key.Metric f)) (integer n) old)
    → Holds (key_name (key.Metric f)) (pairs ++ reported f o) new
holds_reported {last} {pairs} {old} new f None holds later is =
    record {
      same = is ∙ holds.same ∙ ap members (sym (append-nil pairs));
      before = λ l h. rw append-nil (holds.before l (nat_list_cmp_total.trans last (key_name (key.Metric f)) l later h));
    }
holds_reported {last} {pairs} {old} new f (Some n) holds later is = holds_put new (key.Metric f) (integer n) holds later is
