-- What one byte does to what is left of a log.
use Rattle.std.proofs.Common.{◌≡◌, ◌∙◌, ◌∷◌, ◌++◌, ◌<◌, ℕ, true, false, List, [], Ok, Err, length, drop, refl, sym, ap, arith}
use Rattle.std.specs.Prelude.{Result}
use Rattle.qa_qlog.specs.Cuts.{State, Uncut, behind, cut_of, cuts, emptied, ended, is_ended, put, turn}
use Rattle.qa_qlog.specs.Cutting.{Fails, IsFound, IsNext, Keeps, Lacks, Reads, Turns, left, without}
use Rattle.qa_qlog.specs.Outer.{is_events}
use Rattle.qa_qlog.specs.declared.cutter.CutFault.{CutFault}
use Rattle.qa_qlog.specs.declared.cutter.Step.{Step}
use Rattle.qa_qlog.specs.declared.cutter.Step.TheVariants.{Found, Going, Waits}

-- a byte before which no number ends
pub at_byte : (s : State) (b : ℕ) (bs : List ℕ) → is_ended s b ≡ false → cuts s (b ∷ bs) ≡ behind (turn s b) (λ u. cuts u bs)
at_byte s b bs goes = rw goes refl

next_left : (old : Uncut) (b : ℕ) → IsNext b old → is_ended old.state b ≡ false → (more : List ℕ)
    → left old more ≡ behind (turn old.state b) (λ u. cuts u (drop 1 old.bytes ++ more))
next_left old b is goes more =
    ap (λ bytes. cuts old.state (bytes ++ more)) is ∙ at_byte old.state b (drop 1 old.bytes ++ more) goes

shorter : (bytes : List ℕ) (b : ℕ) → bytes ≡ b ∷ drop 1 bytes → length (drop 1 bytes) < length bytes
shorter [] b is = cc
shorter (c ∷ cs) b is = omega arith

pub reads_turn : (old : Uncut) (b : ℕ) (result : Result Step CutFault) (new : Uncut) → IsNext b old → is_ended old.state b ≡ false
    → Turns (turn old.state b) old result new → Reads old result new
reads_turn old b (Ok Going) new is goes h = (
  record {
    left = λ more. next_left old b is goes more ∙ ap (λ t. behind t (λ u. cuts u (drop 1 old.bytes ++ more))) h.1 ∙ ap (λ (log : Uncut). left log more) (sym h.2);
    refused = ap (λ (log : Uncut). log.refused) h.2;
  },
  let less = shorter old.bytes b is in
      let same : length new.bytes ≡ length (drop 1 old.bytes) = ap (λ (log : Uncut). length log.bytes) h.2 in
      omega arith,
)
reads_turn old b (Ok Found) new is goes h = record {
  left = λ more.
      next_left old b is goes more ∙ ap (λ t. behind t (λ u. cuts u (drop 1 old.bytes ++ more))) h.1
      ∙ ap (λ (log : Uncut). put (cut_of log.state) (left (without log) more)) (sym h.2);
  refused = ap (λ (log : Uncut). log.refused) h.2;
}
reads_turn old b (Ok Waits) new is goes h = absurd h
reads_turn old b (Err fault) new is goes h = record {
  why = λ known more. next_left old b is goes more ∙ ap (λ t. behind t (λ u. cuts u (drop 1 old.bytes ++ more))) (h.0 known);
  now = ap (λ (log : Uncut). log.refused) h.1;
}

-- ---- a number ends

abbrev pub after_number : Uncut → Uncut
after_number old = record old { state = ended old.state }

number_left : (old : Uncut) (b : ℕ) → IsNext b old → is_ended old.state b ≡ true → is_events old.state.position.level ≡ false → (more : List ℕ)
    → left old more ≡ left (after_number old) more
number_left old b is ends elsewhere more =
    ap (λ bytes. cuts old.state (bytes ++ more)) is
    ∙ rw (ends, elsewhere) refl
    ∙ sym (ap (λ bytes. cuts (ended old.state) (bytes ++ more)) is)

number_turn : (old : Uncut) (b : ℕ) (result : Result Step CutFault) (new : Uncut) → IsNext b old → is_ended old.state b ≡ true
    → is_events old.state.position.level ≡ false → Turns (turn (ended old.state) b) (after_number old) result new → Reads old result new
number_turn old b (Ok Going) new is ends elsewhere h =
    let reads = reads_turn (after_number old) b (Ok Going) new is refl h in (
      record {
        left = λ more. number_left old b is ends elsewhere more ∙ reads.0.left more;
        refused = reads.0.refused;
      },
      reads.1,
    )
number_turn old b (Ok Found) new is ends elsewhere h =
    let reads = reads_turn (after_number old) b (Ok Found) new is refl h in
    record {
      left = λ more. number_left old b is ends elsewhere more ∙ reads.left more;
      refused = reads.refused;
    }
number_turn old b (Ok Waits) new is ends elsewhere h = absurd h
number_turn old b (Err fault) new is ends elsewhere h =
    let reads = reads_turn (after_number old) b (Err fault) new is refl h in
    record {
      why = λ known more. number_left old b is ends elsewhere more ∙ reads.why known more;
      now = reads.now;
    }

-- `whole` is the length of the skeleton
abbrev number_at : Uncut → ℕ → Uncut
number_at old n = record old { state = record (ended old.state) { whole = n } }

pub reads_number : (old : Uncut) (b n : ℕ) (result : Result Step CutFault) (new : Uncut) → n ≡ length old.state.skeleton → IsNext b old
    → is_ended old.state b ≡ true → is_events old.state.position.level ≡ false
    → Turns (turn (number_at old n).state b) (number_at old n) result new → Reads old result new
reads_number old b n result new whole is ends elsewhere h = number_turn old b result new is ends elsewhere (rw whole at h)

found_number : (old : Uncut) (b : ℕ) → IsNext b old → is_ended old.state b ≡ true → is_events old.state.position.level ≡ true
    → IsFound old (after_number old)
found_number old b is ends within = record {
  left = λ more.
      ap (λ bytes. cuts old.state (bytes ++ more)) is
      ∙ rw (ends, within) refl
      ∙ sym (ap (λ bytes. put (cut_of old.state) (cuts (emptied (ended old.state)) (bytes ++ more))) is);
  refused = refl;
}

pub finds_number : (old : Uncut) (b n : ℕ) → n ≡ length old.state.skeleton → IsNext b old → is_ended old.state b ≡ true
    → is_events old.state.position.level ≡ true → IsFound old (number_at old n)
finds_number old b n whole is ends within = rw whole (found_number old b is ends within)

-- what a cutter shows, in place of what it was
pub reads_number_at : (v old : Uncut) (b n : ℕ) (result : Result Step CutFault) (new : Uncut) → v ≡ old → n ≡ length old.state.skeleton → IsNext b old
    → is_ended old.state b ≡ true → is_events v.state.position.level ≡ false
    → Turns (turn (number_at v n).state b) (number_at v n) result new → Reads old result new
reads_number_at v old b n result new same whole is ends elsewhere h =
    reads_number old b n result new whole is ends (ap (λ (u : Uncut). is_events u.state.position.level) (sym same) ∙ elsewhere) (rw same at h)

pub finds_number_at : (v old : Uncut) (b n : ℕ) → v ≡ old → n ≡ length old.state.skeleton → IsNext b old → is_ended old.state b ≡ true
    → is_events v.state.position.level ≡ true → IsFound old (number_at v n)
finds_number_at v old b n same whole is ends within =
    rw same (finds_number old b n whole is ends (ap (λ (u : Uncut). is_events u.state.position.level) (sym same) ∙ within))

-- ---- several calls

pub keeps_none : (old : Uncut) → Keeps old old
keeps_none old = record { left = λ more. refl; refused = refl }

pub keeps_keeps : (old mid new : Uncut) → Keeps old mid → Keeps mid new → Keeps old new
keeps_keeps old mid new first second = record {
  left = λ more. first.left more ∙ second.left more;
  refused = second.refused ∙ first.refused;
}

pub keeps_found : (old mid new : Uncut) → Keeps old mid → IsFound mid new → IsFound old new
keeps_found old mid new first second = record {
  left = λ more. first.left more ∙ second.left more;
  refused = second.refused ∙ first.refused;
}

pub keeps_lacks : (old mid new : Uncut) → Keeps old mid → Lacks mid new → Lacks old new
keeps_lacks old mid new first second = record { keeps = keeps_keeps old mid new first second.keeps; none = second.none }

pub keeps_fails : (old mid new : Uncut) (fault : CutFault) → Keeps old mid → Fails mid fault new → Fails old fault new
keeps_fails old mid new fault first second = record {
  why = λ known more. first.left more ∙ second.why known more;
  now = second.now;
}
