-- What a call that finds or takes a text has shown.
use Rattle.std.proofs.Common.{◌≡◌, ◌∙◌, ℕ, List, ◌∷◌, ◌++◌, true, false, Option, Some, None, Result, Ok, Err, take, drop, refl, sym, ap, arith}
use Rattle.std.specs.Prelude.{IfSome}
use Rattle.std.specs.Borrow.{Bor}
use Rattle.qa_cut.specs.Cuts.{Uncut, BeginsTooLong, HasNoPiece, IsPlace}
use Rattle.qa_cut.specs.declared.cutter.Place.{Place}
use Rattle.qa_cut.specs.declared.cutter.SplitFault.{SplitFault}
use Rattle.qa_cut.specs.declared.cutter.SplitFault.TheVariants as split
use Rattle.qa_qlog.specs.declared.texts.Found.{Found}
use Rattle.qa_qlog.specs.declared.texts.TextFault.{TextFault}
use Rattle.qa_qlog.specs.Texts.{text_limit, is_blank, pieces, Rest, put_text, line_after, texts_from, left}
use Rattle.qa_qlog.specs.Taking.{fault_at, MayFollow, Keeps, IsTooLong, Moves, IsFoundAt, passed, Finds}
use Rattle.qa_qlog.proofs.Pieces.{taken_first, too_long_first, at_long, at_blank, at_text}

-- ---- one piece

abbrev pub text_at : Rest → Found → List ℕ
text_at rest found = take found.place.len rest.uncut.bytes

first : (rest : Rest) (found : Found) → IsFoundAt found rest → (more : List ℕ) → MayFollow rest more
    → left rest more ≡ texts_from rest.uncut.mark rest.line (text_at rest found ∷ pieces rest.uncut.mark (drop found.place.taken rest.uncut.bytes ++ more))
first rest found is more follows =
    ap (texts_from rest.uncut.mark rest.line) (taken_first rest.uncut (text_at rest found) (drop found.place.taken rest.uncut.bytes) is.place.2 more follows)

then_left : (rest : Rest) (found : Found) → IsFoundAt found rest → (more : List ℕ)
    → texts_from rest.uncut.mark (line_after rest.uncut.mark rest.line (text_at rest found)) (pieces rest.uncut.mark (drop found.place.taken rest.uncut.bytes ++ more)) ≡ left (passed rest found) more
then_left rest found is more =
    ap (λ n. texts_from rest.uncut.mark n (pieces rest.uncut.mark (drop found.place.taken rest.uncut.bytes ++ more))) (sym is.after)

pub pass_blank : (rest : Rest) (found : Found) → IsFoundAt found rest → found.is_blank ≡ true → (more : List ℕ) → MayFollow rest more
    → left rest more ≡ left (passed rest found) more
pass_blank rest found is blank more follows =
    first rest found is more follows
    ∙ at_blank rest.uncut.mark rest.line (text_at rest found) (pieces rest.uncut.mark (drop found.place.taken rest.uncut.bytes ++ more)) is.short (sym is.blank ∙ blank)
    ∙ then_left rest found is more

pub take_text : (rest : Rest) (found : Found) → IsFoundAt found rest → found.is_blank ≡ false → (more : List ℕ) → MayFollow rest more
    → left rest more ≡ put_text (record { line = rest.line; bytes = text_at rest found }) (left (passed rest found) more)
take_text rest found is blank more follows =
    first rest found is more follows
    ∙ at_text rest.uncut.mark rest.line (text_at rest found) (pieces rest.uncut.mark (drop found.place.taken rest.uncut.bytes ++ more)) is.short (sym is.blank ∙ blank)
    ∙ ap (put_text (record { line = rest.line; bytes = text_at rest found })) (then_left rest found is more)

-- ---- what is found

abbrev pub rest_at : Uncut → ℕ → Rest
rest_at u n = record { uncut = u; line = n }

pub found_at : (u u' : Uncut) (n byte : ℕ) (found : Found) (bytes : List ℕ) → u.limit ≡ text_limit → u.mark ≡ byte
    → IsPlace u found.place.len found.place.taken → u' ≡ u → bytes ≡ take found.place.len u'.bytes
    → found.is_blank ≡ is_blank bytes → found.after ≡ line_after byte n bytes → IsFoundAt found (rest_at u n)
found_at u u' n byte found bytes limit mark place same are blank after =
    let text : bytes ≡ take found.place.len u.bytes = are ∙ ap (λ (c : Uncut). take found.place.len c.bytes) same in
    record {
      place = place;
      short = let short = place.2.is_piece.1 in omega arith;
      blank = blank ∙ ap is_blank text;
      after = after ∙ ap (λ m. line_after m n bytes) (sym mark) ∙ ap (line_after u.mark n) text;
    }

pub finds_some : (u u' : Uncut) (n : ℕ) (found : Found) → IsFoundAt found (rest_at u n) → u' ≡ u → u.refused ≡ None
    → Finds (rest_at u n) (Ok (Some found)) (rest_at u' n)
finds_some u u' n found is same whole = record {
  refused = rw whole tt;
  place = (is, ap (λ c. rest_at c n) same, whole);
  none = tt;
  err = tt;
}

pub finds_none : (u u' : Uncut) (n : ℕ) → HasNoPiece u → u' ≡ u → u.refused ≡ None → Finds (rest_at u n) (Ok None) (rest_at u' n)
finds_none u u' n none same whole = record {
  refused = rw whole tt;
  place = tt;
  none = (ap (λ c. rest_at c n) same, none, whole);
  err = tt;
}

-- what answered had not failed before
pub was_whole : (o : Option SplitFault) (x : Option Place) (P : Type 0) → IfSome o (λ fault. (Ok x ≡ Err fault) × P) → o ≡ None
was_whole None x P h = refl
was_whole (Some fault) x P h = let e = h.0 in cc

too_long : (u : Uncut) (n : ℕ) → u.limit ≡ text_limit → BeginsTooLong u → IsTooLong (rest_at u n) (fault_at n split.TooLong)
too_long u n limit begins more follows =
    at_long u.mark n (pieces u.mark (u.bytes ++ more)) (rw limit at (too_long_first u begins more))

why : (u : Uncut) (n : ℕ) (fault : SplitFault) → u.limit ≡ text_limit
    → (fault ≡ split.TooLong → BeginsTooLong u) → (fault ≡ split.OutOfMemory → ⊥) → IsTooLong (rest_at u n) (fault_at n fault)
why u n split.TooLong limit long memory = too_long u n limit (long refl)
why u n split.OutOfMemory limit long memory = absurd (memory refl)

stays : (o : Option SplitFault) (n : ℕ) (fault : SplitFault) (r : Result (Option Place) SplitFault) (q : Result (Option Found) TextFault) (u u' : Uncut)
    → r ≡ Err fault → q ≡ Err (fault_at n fault) → IfSome o (λ it. (r ≡ Err it) × (u' ≡ u))
    → IfSome o (λ it. (q ≡ Err (fault_at n it)) × (rest_at u' n ≡ rest_at u n))
stays None n fault r q u u' r-is q-is h = tt
stays (Some it) n fault r q u u' r-is q-is h =
    let is : fault ≡ it = let e = h.0 in cc in
    (q-is ∙ ap (λ f. Err (fault_at n f)) is, ap (λ c. rest_at c n) h.1)

pub finds_err : (u u' : Uncut) (n : ℕ) (fault : SplitFault) (r : Result (Option Place) SplitFault) → u.limit ≡ text_limit
    → r ≡ Err fault → u' ≡ record u { refused = Some fault } → IfSome u.refused (λ it. (r ≡ Err it) × (u' ≡ u))
    → (u.refused ≡ None → r ≡ Err split.TooLong → BeginsTooLong u) → (u.refused ≡ None → r ≡ Err split.OutOfMemory → ⊥)
    → Finds (rest_at u n) (Err (fault_at n fault)) (rest_at u' n)
finds_err u u' n fault r limit r-is is failed long memory = record {
  refused = stays u.refused n fault r _ u u' r-is refl failed;
  place = tt;
  none = tt;
  err = record {
    why = λ whole. why u n fault limit (λ e. long whole (r-is ∙ ap Err e)) (λ e. memory whole (r-is ∙ ap Err e));
    now = (fault, ap (λ (c : Uncut). c.refused) is, refl);
  };
}

-- ---- several pieces

follow : (old now : Rest) → Keeps old now → (more : List ℕ) → MayFollow old more → MayFollow now more
follow old now keeps more follows closed = follows (sym keeps.closed ∙ closed)

pub keeps_passed : (old now : Rest) (found : Found) → Keeps old now → IsFoundAt found now → found.is_blank ≡ true → Keeps old (passed now found)
keeps_passed old now found keeps is blank = record {
  left = λ more follows. keeps.left more follows ∙ pass_blank now found is blank more (follow old now keeps more follows);
  mark = keeps.mark;
  closed = keeps.closed;
  refused = keeps.refused;
}

-- what had not failed is not asked to stay
pub none_stays : (old now : Rest) (P : SplitFault → Type 0) → Keeps old now → now.uncut.refused ≡ None → IfSome old.uncut.refused P
none_stays old now P keeps whole =
    let none : old.uncut.refused ≡ None = sym keeps.refused ∙ whole in
    rw none tt

pub moves_text : (old mid new : Rest) (found : Found) (bytes : Bor (List ℕ)) → Keeps old mid → IsFoundAt found mid → found.is_blank ≡ false
    → mid.uncut.refused ≡ None → new ≡ passed mid found → bytes.now ≡ text_at mid found
    → Moves old (Ok (Some (record { line = mid.line; bytes = bytes }))) new
moves_text old mid new found bytes keeps is blank whole passes text = record {
  refused = none_stays old mid _ keeps whole;
  text = rw passes (record {
    left = λ more follows.
        keeps.left more follows ∙ take_text mid found is blank more (follow old mid keeps more follows)
        ∙ ap (λ b. put_text (record { line = mid.line; bytes = b }) (left (passed mid found) more)) (sym text);
    mark = keeps.mark;
    closed = keeps.closed;
    whole = whole;
  });
  none = tt;
  err = tt;
}
