-- Lines of packets that were sent.
use Rattle.std.proofs.Common.{◌≡◌, ◌∙◌, ◌||◌, ℕ, zero, suc, Bool, true, false, Option, Some, List, [], ◌∷◌, ◌++◌, get_or, append-nil, append_assoc, refl, sym, ap, ap₂}
use Rattle.std.proofs.lemmas.Bool.Decides.{Decides-eqb}
use Rattle.std.specs.Option.{is_some}
use Rattle.std.specs.Prelude.{nat_eq, not}
use Rattle.std.proofs.Math.ListN.{set}
use Rattle.qa_base.specs.declared.space.Permission.{Permission}
use Rattle.qa_base.specs.declared.space.Permission.TheVariants.{Window, Probe, Recovery}
use Rattle.qa_base.specs.declared.space.Space.{Space}
use Rattle.qa_base.specs.values.PerSpace.{of_space}
use Rattle.qa_qlog.specs.Frames.{is_in_flight}
use Rattle.qa_convert.proofs.Keyed.{all_and, no_gone}
use Rattle.qa_convert.specs.Sending.{AreOf, AreWrittenOf, IsOf, IsWrittenOf, Wrote, line_of}
use Rattle.qa_convert.specs.Telling.{AreLinesOf, IsLineOf, Retired, SentLine, Told, next_marks, says_leave, sized, will_say, with_gone, with_sent, with_size}
use Rattle.qa_convert.specs.declared.groups.PacketAt.{PacketAt}
use Rattle.qa_convert.specs.declared.guess.Guess.{Guess}
use Rattle.qa_convert.specs.declared.guess.Guess.TheVariants as guess
use Rattle.qa_convert.specs.declared.packet.LoggedPacket.{LoggedPacket}
use Rattle.qa_convert.specs.declared.sending.Outgoing.{Outgoing}
use Rattle.qa_convert.specs.declared.writing.Writing.{Writing}

or_none : (b : Bool) → (b || false) ≡ b
or_none true = refl
or_none false = refl

some_same : (m n : ℕ) → Some m ≡ Some n → m ≡ n
some_same m n e = cc

line_is : (s g : Bool) (p : LoggedPacket) (o : Outgoing) (l : SentLine) → IsOf s g p o → IsWrittenOf o l → IsLineOf s g p l
line_is s g p o l is written = record {
  space = ap (λ (m : SentLine). m.space) written.line ∙ ap (λ (q : LoggedPacket). q.space) is.packet;
  number = ap (λ (m : SentLine). m.number) written.line ∙ ap (λ (q : LoggedPacket). q.number) is.packet;
  eliciting = ap (λ (m : SentLine). m.eliciting) written.line ∙ ap (λ (q : LoggedPacket). q.content.is_eliciting) is.packet;
  size = λ e. ap (λ (m : SentLine). Some m.size) written.line ∙ is.size e;
  in_flight = λ e. ap (λ (m : SentLine). m.in_flight) written.line
      ∙ ap (λ b. is_in_flight o.packet.content || b) (is.padded e) ∙ or_none (is_in_flight o.packet.content) ∙ ap (λ (q : LoggedPacket). is_in_flight q.content) is.packet;
  guess = λ e known same. written.guess (is.guess e known (sym (ap (λ (m : SentLine). Some m.size) written.line) ∙ same));
  leave = ap (λ (m : SentLine). m.says_leave) written.line;
}

none_written : (ls : List SentLine) (os : List Outgoing) → os ≡ [] → AreWrittenOf os ls → ls ≡ []
none_written ls [] none written = written
none_written ls (o ∷ os) none written = cc

pub lines_are : (s g : Bool) (ps : List LoggedPacket) (os : List Outgoing) (ls : List SentLine) → AreOf s g ps os → AreWrittenOf os ls → AreLinesOf s g ps ls
lines_are s g [] os ls are written = none_written ls os are written
lines_are s g (p ∷ ps) [] ls are written = absurd are
lines_are s g (p ∷ ps) (o ∷ os) [] are written = absurd written
lines_are s g (p ∷ ps) (o ∷ os) (l ∷ ls) are written = (line_is s g p o l are.0 written.0, lines_are s g ps os ls are.1 written.1)

must_settle : (g b : Bool) → (g ≡ false → b ≡ true) → (g || b) ≡ false → ⊥
must_settle true b known e = cc
must_settle false b known e = let is : b ≡ true = known refl in cc

other_size : (m n : ℕ) (s : Option ℕ) → nat_eq m n ≡ false → Some m ≡ s → Some n ≡ s → ⊥
other_size m n s differ first second =
    let same : m ≡ n = some_same m n (first ∙ sym second) in
    let alike : nat_eq m n ≡ true = (Decides-eqb m n).1 same in cc

-- a packet whose size the growth has shown: if others are not taken by it, it was a guess
pub grown_is : (g : Bool) (p : LoggedPacket) (old new : Outgoing) → IsOf true g p old → (g ≡ false → old.is_size_guessed ≡ true) → new.packet ≡ old.packet
    → new.is_size_guessed ≡ false → nat_eq new.size old.size ≡ false → IsOf true g p new
grown_is g p old new is guessed packet settled differ =
    let may : (g || p.is_size_guessed) ≡ false → ⊥ = must_settle g p.is_size_guessed (λ e. is.guessed (guessed e)) in
    record {
      packet = packet ∙ is.packet;
      guessed = λ e. cc;
      size = λ e. absurd (may e);
      padded = λ e. absurd (may e);
      unsettled = λ e known. cc;
      guess = λ e known same. absurd (other_size new.size old.size p.size differ same (is.unsettled e (guessed e)));
    }

pub set_are : (s g : Bool) (ps : List LoggedPacket) (os : List Outgoing) (i : ℕ) (d new : Outgoing) → AreOf s g ps os
    → ((p : LoggedPacket) → IsOf s g p (get_or os i d) → IsOf s g p new) → AreOf s g ps (set os i new)
set_are s g [] os i d new are step = rw are refl
set_are s g (p ∷ ps) [] i d new are step = absurd are
set_are s g (p ∷ ps) (o ∷ os) zero d new are step = (step p are.0, are.1)
set_are s g (p ∷ ps) (o ∷ os) (suc i) d new are step = (are.0, set_are s g ps os i d new are.1 step)

abbrev pub sent_and_gone : Told → List SentLine → List Space → Told
sent_and_gone t ls ss = with_gone (with_sent t ls) ss

more_sent : (t : Told) (ls more : List SentLine) (ss rest : List Space) → sent_and_gone (sent_and_gone t ls ss) more rest ≡ sent_and_gone t (ls ++ more) (ss ++ rest)
more_sent t ls more ss rest =
    ap₂ (λ (sent : List SentLine) (gone : List Space). record t { sent = sent; keys = record { came = t.keys.came; gone = gone } }) (append_assoc t.sent ls more) (append_assoc t.keys.gone ss rest)

pub none_sent : (t : Told) → t ≡ sent_and_gone t [] []
none_sent t = ap₂ (λ (sent : List SentLine) (gone : List Space). record t { sent = sent; keys = record { came = t.keys.came; gone = gone } }) (sym (append-nil t.sent)) (sym (append-nil t.keys.gone))

-- ---- lines that were written

written_and : (os more : List Outgoing) (ls ms : List SentLine) → AreWrittenOf os ls → AreWrittenOf more ms → AreWrittenOf (os ++ more) (ls ++ ms)
written_and [] more ls ms first second = rw first second
written_and (o ∷ os) more [] ms first second = absurd first
written_and (o ∷ os) more (l ∷ ls) ms first second = (first.0, written_and os more ls ms first.1 second)

pub wrote_none : (retired : Retired) (t : Told) → Wrote retired [] t t
wrote_none retired t = record { lines = []; are = refl; spaces = []; gone = tt; told = none_sent t }

pub wrote_more : (retired : Retired) (os more : List Outgoing) (a b c : Told) → Wrote retired os a b → Wrote retired more b c → Wrote retired (os ++ more) a c
wrote_more retired os more a b c first second = record {
  lines = first.lines ++ second.lines;
  are = written_and os more first.lines second.lines first.are second.are;
  spaces = first.spaces ++ second.spaces;
  gone = all_and (λ s. is_some (of_space s retired) ≡ true) first.spaces second.spaces first.gone second.gone;
  told = second.told ∙ ap (λ t. sent_and_gone t second.lines second.spaces) first.told ∙ more_sent a first.lines second.lines first.spaces second.spaces;
}

pub wrote_one : (retired : Retired) (o : Outgoing) (says : Bool) (a b : Told) → b ≡ with_sent a (line_of o says ∷ []) → (o.is_size_guessed ≡ true → says ≡ true) → Wrote retired (o ∷ []) a b
wrote_one retired o says a b is guess = record {
  lines = line_of o says ∷ [];
  are = (record { line = refl; guess = guess }, refl);
  spaces = [];
  gone = tt;
  told = is ∙ no_gone (with_sent a (line_of o says ∷ []));
}

-- what the log told of keys that are gone, and then lines of packets
-- ---- groups

pub lines_then : (s g : Bool) (ps qs : List LoggedPacket) (ls ms : List SentLine) → AreLinesOf s g ps ls → AreLinesOf s g qs ms → AreLinesOf s g (ps ++ qs) (ls ++ ms)
lines_then s g [] qs ls ms none are = rw none are
lines_then s g (p ∷ ps) qs [] ms wrong are = absurd wrong
lines_then s g (p ∷ ps) qs (l ∷ ls) ms all are = (all.0, lines_then s g ps qs ls ms all.1 are)

pub sized_and : (ps qs : List PacketAt) → sized (ps ++ qs) ≡ sized ps ++ sized qs
sized_and [] qs = refl
sized_and (p ∷ ps) qs = ap (λ rest. with_size p p.packet.size ++ rest) (sized_and ps qs) ∙ sym (append_assoc (with_size p p.packet.size) (sized ps) (sized qs))

-- ---- leaves

-- a leave that the next line says, it says with more guesses
pub more_said : (p : Permission) (a b : Writing) → ((g : Guess) → will_say a g ≡ true → will_say b g ≡ true)
    → says_leave p (next_marks a) ≡ true → says_leave p (next_marks b) ≡ true
more_said Window a b more says = refl
more_said Probe a b more says = more guess.LeaveProbe says
more_said Recovery a b more says = more guess.LeaveRecovery says
