-- What a walk makes of one word.
use Rattle.std.proofs.Common.{◌≡◌, ◌∙◌, ◌⊎◌, inl, inr, Bool, cond, true, false, List, [], ◌∷◌, ◌++◌, fold, Option, Some, None, refl, ap, ap₂, codes, is_some}
use Rattle.clap.specs.Faults.{check_fault, defaults_fault, react_fault, settle_fault, turn_fault, use_fault, walk_fault}
use Rattle.clap.specs.Kinds.{Kinds, or_else}
use Rattle.clap.specs.Walk.{Held, Row, Text, Waiting, Walk, finished, has_row, settled, settled_rows, used, walked}
use Rattle.clap.specs.declared.error.kind.ErrorKind.{ErrorKind}
use Rattle.clap.specs.declared.error.kind.ErrorKind.TheVariants.{ArgumentConflict, ValueValidation}
use Rattle.qa_arguments.specs.why.Asked.{Request, asked_in, refuses, request_of_kind}
use Rattle.qa_arguments.specs.why.Words.{Item, all, around, asked_behind, file, has, is_lines, is_wrong, json, quiet, rows, shown, warn, wrong}
use Rattle.qa_arguments.proofs.why_lemmas.Finish.{asked_ends, ends_so, no_defaults}
use Rattle.qa_arguments.proofs.why_lemmas.Meaning.{Acts}
use Rattle.qa_arguments.proofs.why_lemmas.Rows.{Holds, Says, around_built, find_row, given_has, has_row-find, one_more, rule_for, rules, shape, values_for}

-- ---- where a walk stands

abbrev pub Pending : Type 0
Pending = Option (Text × List Text)

abbrev pub held : List Row → Pending → Held
held found pending = record { rows = found; pending = pending; skip = 0 }

abbrev pub at : List Row → Pending → Waiting → Bool → Walk
at found pending waiting is_trailing = record {
  held = held found pending;
  waiting = waiting;
  position = 1;
  is_trailing = is_trailing;
  stopped = None;
}

-- no fault comes of what is pending, and with it the rows are those of the items
pub record Stands (had : List Item) (found : List Row) (pending : Pending) : Type 0 where
  pub fine : settle_fault rules false (held found pending) ≡ []
  pub holds : Holds had (settled_rows rules pending found)

-- ---- what comes of a walk

abbrev last_fault : Walk → Kinds
last_fault end = or_else (settle_fault rules false end.held)
    (or_else (defaults_fault (settled rules end.held).rows rules) (check_fault shape (finished rules end.held) false))

abbrev pub faults : Walk → List Text → Kinds
faults w words = or_else (walk_fault shape [] w words) (or_else [] (last_fault (fold (walked rules []) w words)))

abbrev pub rows_end : Walk → List Text → List Row
rows_end w words = finished rules (fold (walked rules []) w words).held

-- a fault of one kind, which asks for this
pub record FailsAs (found : Kinds) (r : Request) : Type 0 where
  pub kind : ErrorKind
  pub is : found ≡ kind ∷ []
  pub asks : request_of_kind kind ≡ r

-- the words ask for this
abbrev pub Gives : Walk → List Text → Request → Type 0
Gives w words r = ((faults w words ≡ []) × (asked_in (rows_end w words) ≡ r)) ⊎ FailsAs (faults w words) r

pub gives_now : (w : Walk) (word : Text) (words : List Text) (r : Request) → FailsAs (turn_fault shape [] w word) r → Gives w (word ∷ words) r
unfolding walk_fault
gives_now w word words r fails = inr (record {
  kind = fails.kind;
  is = ap (λ (k : Kinds). or_else (or_else k (walk_fault shape [] (walked rules [] w word) words)) (or_else [] (last_fault (fold (walked rules []) w (word ∷ words))))) fails.is;
  asks = fails.asks;
})

pub gives_more : (w after : Walk) (word : Text) (words : List Text) (r : Request) → turn_fault shape [] w word ≡ [] → walked rules [] w word ≡ after
    → Gives after words r → Gives w (word ∷ words) r
unfolding walk_fault
gives_more w after word words r fine is gives =
    let same : faults w (word ∷ words) ≡ faults after words = ap₂ (λ (k : Kinds) (x : Walk). or_else (or_else k (walk_fault shape [] x words)) (or_else [] (last_fault (fold (walked rules []) x words)))) fine is in
    let ends : rows_end w (word ∷ words) ≡ rows_end after words = ap (λ (x : Walk). rows_end x words) is in
    elim gives [
      | inl good ↦ inl (same ∙ good.0, ap asked_in ends ∙ good.1)
      | inr bad ↦ inr (record { kind = bad.kind; is = same ∙ bad.is; asks = bad.asks })
    ]

-- no word is left
pub gives_end : (had : List Item) (found : List Row) (pending : Pending) (waiting : Waiting) (is_trailing : Bool) → Stands had found pending
    → Gives (at found pending waiting is_trailing) [] (asked_behind had [])
unfolding walk_fault
gives_end had found pending waiting is_trailing stands =
    let all_found = settled_rows rules pending found in
    inl (
      ap₂ (λ (k : Kinds) (j : Kinds). or_else k (or_else j (check_fault shape (finished rules (held found pending)) false))) stands.fine (no_defaults all_found),
      ap asked_in (ends_so all_found) ∙ asked_ends had all_found stands.holds,
    )

pub fails_end : (found : List Row) (pending : Pending) (waiting : Waiting) (is_trailing : Bool) (r : Request) → FailsAs (settle_fault rules false (held found pending)) r
    → Gives (at found pending waiting is_trailing) [] r
unfolding walk_fault
fails_end found pending waiting is_trailing r fails = inr (record {
  kind = fails.kind;
  is = ap (λ (k : Kinds). or_else k (or_else (defaults_fault (settled rules (held found pending)).rows rules) (check_fault shape (finished rules (held found pending)) false))) fails.is;
  asks = fails.asks;
})

-- ---- one use of an option

has_is : (had : List Item) (found : List Row) (name : Text) (b : Bool) → Holds had found → has name had ≡ b → has_row name found ≡ b
has_is had found name b holds is = has_row-find name found ∙ (given_has name had found holds ∙ is)

none_is : (o : Option Row) → is_some o ≡ false → o ≡ None
none_is None no_row = refl
none_is (Some r) no_row = cc

once : (had : List Item) (found : List Row) (name : Text) → Holds had found → has name had ≡ false → find_row name found ≡ None
once had found name holds is = none_is (find_row name found) (given_has name had found holds ∙ is)

-- an item that is right
pub record Right (item : Item) (found : List Row) : Type 0 where
  pub fine : use_fault false (rule_for item) (values_for item) found ≡ []
  pub says : Says item found

pub right : (had : List Item) (found : List Row) (item : Item) → Holds had found → Acts item → is_wrong had item ≡ false → Right item found
right had found all holds acts is = record { fine = rw (has_is had found (codes "all") false holds is) refl; says = once had found (codes "all") holds is }
right had found json holds acts is = record { fine = rw (has_is had found (codes "json") false holds is) refl; says = once had found (codes "json") holds is }
right had found quiet holds acts is = record { fine = rw (has_is had found (codes "quiet") false holds is) refl; says = once had found (codes "quiet") holds is }
right had found rows holds acts is = record { fine = rw (has_is had found (codes "rows") false holds is) refl; says = once had found (codes "rows") holds is }
right had found warn holds acts is = record { fine = rw (has_is had found (codes "warn") false holds is) refl; says = once had found (codes "warn") holds is }
right had found (around number) holds acts is = go (has (codes "around") had) refl (is_lines number) refl
  where
    go : (b : Bool) → has (codes "around") had ≡ b → (l : Bool) → is_lines number ≡ l → Right (around number) found
    go true was l lines = let bad : true ≡ false = rw was at is in cc
    go false was false lines = let bad : true ≡ false = rw (was, lines) at is in cc
    go false was true lines = record {
      fine = rw (has_is had found (codes "around") false holds was, lines) refl;
      says = (once had found (codes "around") holds was, lines);
    }
right had found (file name) holds acts is = record { fine = refl; says = tt }
right had found shown holds acts is = absurd acts
right had found wrong holds acts is = absurd acts

again : (fault : Kinds) → fault ≡ ArgumentConflict ∷ [] → FailsAs fault refuses
again fault is = record { kind = ArgumentConflict; is = is; asks = refl }

pub not_right : (had : List Item) (found : List Row) (item : Item) → Holds had found → Acts item → is_wrong had item ≡ true
    → FailsAs (use_fault false (rule_for item) (values_for item) found) refuses
not_right had found all holds acts is = again _ (rw (has_is had found (codes "all") true holds is) refl)
not_right had found json holds acts is = again _ (rw (has_is had found (codes "json") true holds is) refl)
not_right had found quiet holds acts is = again _ (rw (has_is had found (codes "quiet") true holds is) refl)
not_right had found rows holds acts is = again _ (rw (has_is had found (codes "rows") true holds is) refl)
not_right had found warn holds acts is = again _ (rw (has_is had found (codes "warn") true holds is) refl)
not_right had found (around number) holds acts is = go (has (codes "around") had) refl (is_lines number) refl
  where
    go : (b : Bool) → has (codes "around") had ≡ b → (l : Bool) → is_lines number ≡ l → FailsAs (use_fault false around_built (number ∷ []) found) refuses
    go true was l lines = again _ (rw (has_is had found (codes "around") true holds was) refl)
    go false was false lines = record { kind = ValueValidation; is = rw (has_is had found (codes "around") false holds was, lines) refl; asks = refl }
    go false was true lines = let bad : false ≡ true = rw (was, lines) at is in cc
not_right had found (file name) holds acts is = cc
not_right had found shown holds acts is = absurd acts
not_right had found wrong holds acts is = absurd acts

-- what items ask for behind one that does something
pub asked_more : (had : List Item) (item : Item) (more : List Item) → Acts item
    → asked_behind had (item ∷ more) ≡ cond (is_wrong had item) refuses (asked_behind (had ++ item ∷ []) more)
asked_more had all more acts = refl
asked_more had json more acts = refl
asked_more had quiet more acts = refl
asked_more had rows more acts = refl
asked_more had warn more acts = refl
asked_more had (around number) more acts = refl
asked_more had (file name) more acts = refl
asked_more had shown more acts = absurd acts
asked_more had wrong more acts = absurd acts

pub asked_right : (had : List Item) (item : Item) (more : List Item) → Acts item → is_wrong had item ≡ false
    → asked_behind had (item ∷ more) ≡ asked_behind (had ++ item ∷ []) more
asked_right had item more acts is = asked_more had item more acts ∙ ap (λ (b : Bool). cond b refuses (asked_behind (had ++ item ∷ []) more)) is

pub asked_not : (had : List Item) (item : Item) (more : List Item) → Acts item → is_wrong had item ≡ true → asked_behind had (item ∷ more) ≡ refuses
asked_not had item more acts is = asked_more had item more acts ∙ ap (λ (b : Bool). cond b refuses (asked_behind (had ++ item ∷ []) more)) is

-- ---- one more option where a walk stands

pub reacts : (had : List Item) (found : List Row) (pending : Pending) (item : Item) → Stands had found pending → Acts item → is_wrong had item ≡ false
    → react_fault rules false (rule_for item) (values_for item) (held found pending) ≡ []
reacts had found pending item stands acts is =
    ap₂ or_else stands.fine (right had (settled_rows rules pending found) item stands.holds acts is).fine

pub stands_more : (had : List Item) (found : List Row) (pending : Pending) (item : Item) → Stands had found pending → Acts item → is_wrong had item ≡ false
    → Stands (had ++ item ∷ []) (used (rule_for item) (values_for item) (settled_rows rules pending found)) None
stands_more had found pending item stands acts is = record {
  fine = refl;
  holds = one_more had (settled_rows rules pending found) item (right had (settled_rows rules pending found) item stands.holds acts is).says stands.holds;
}

pub reacts_not : (had : List Item) (found : List Row) (pending : Pending) (item : Item) → Stands had found pending → Acts item → is_wrong had item ≡ true
    → FailsAs (react_fault rules false (rule_for item) (values_for item) (held found pending)) refuses
reacts_not had found pending item stands acts is =
    let bad = not_right had (settled_rows rules pending found) item stands.holds acts is in
    record { kind = bad.kind; is = ap₂ or_else stands.fine bad.is; asks = bad.asks }
