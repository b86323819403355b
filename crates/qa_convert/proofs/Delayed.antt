-- Lines of acknowledgments, with their delays.
use Rattle.std.proofs.Common.{◌≡◌, ◌∙◌, ◌++◌, Bool, true, false, cond, List, [], ◌∷◌, append-nil, append_assoc, refl, sym, ap, inl, inr, subst}
use Rattle.std.specs.List.{AllZip}
use Rattle.std.specs.Prelude.{◌&&◌}
use Rattle.std.proofs.lemmas.List.Elements.{filter-append}
use Rattle.qa_base.specs.declared.event.Ack.{Ack}
use Rattle.qa_base.specs.declared.space.Space.{Space}
use Rattle.qa_base.specs.values.Events.{has_ranges}
use Rattle.qa_convert.specs.AckDelays.{AddsAcks, AddsAllOrNone, IsLineOfAck, TellsAcks, decoded, is_by_state, lines_of, naming}
use Rattle.qa_convert.specs.Marks.{Marks}
use Rattle.qa_convert.specs.Outputs.{in_unit}
use Rattle.qa_convert.specs.Telling.{AckLine, Told, ack_line, next_marks, says_limited, will_say}
use Rattle.qa_convert.specs.declared.decoding.Decoding.{Decoding}
use Rattle.qa_convert.specs.declared.guess.Guess.{Guess}
use Rattle.qa_convert.specs.declared.guess.Guess.TheVariants as guess
use Rattle.qa_convert.specs.declared.handshake.Keys.{Keys}
use Rattle.qa_convert.specs.declared.packet.LoggedAck.{LoggedAck}
use Rattle.qa_convert.specs.declared.packet.LoggedPacket.{LoggedPacket}
use Rattle.qa_convert.specs.declared.writing.Writing.{Writing}

-- ---- lines of frames

one_line : (d : Decoding) (s : Space) (a : LoggedAck) (l : AckLine) (b : Bool) → IsLineOfAck d s a l
    → AllZip (IsLineOfAck d s) (cond b (a ∷ []) []) (cond b (l ∷ []) [])
one_line d s a l true is = (is, tt)
one_line d s a l false is = tt

-- the line of one frame
pub one_added : (d : Decoding) (s : Space) (a : LoggedAck) (m : Marks) (x : Ack) (t u : Told) → x.space ≡ s → x.ranges ≡ a.ranges
    → (d.has_cut_times ≡ false → x.delay ≡ in_unit d.unit (decoded d s a)) → ((is_by_state d.limited && d.is_limited) ≡ false → says_limited x.app_limited m ≡ true)
    → u.acks ≡ t.acks ++ lines_of m x → AddsAcks d s (a ∷ []) t u
one_added d s a m x t u space ranges delay limited told =
    let is : IsLineOfAck d s a (ack_line m x) = record { space = space; ranges = ranges; delay = delay; limited = limited } in
    record {
      lines = lines_of m x;
      are = subst (λ b. AllZip (IsLineOfAck d s) (cond (has_ranges a.ranges) (a ∷ []) []) (cond b (ack_line m x ∷ []) [])) (ap has_ranges (sym ranges))
          (one_line d s a (ack_line m x) (has_ranges a.ranges) is);
      told = told;
    }

-- if it is said to be a guess that the window was not used, more guesses do not change that
pub limit_said : (is_limited is_alone : Bool) (a b : Writing) → ((g : Guess) → will_say a g ≡ true → will_say b g ≡ true)
    → says_limited is_limited (next_marks a) ≡ true → says_limited (is_limited && is_alone) (next_marks b) ≡ true
limit_said true true a b more says = more guess.LimitedByWindow says
limit_said true false a b more says = refl
limit_said false is_alone a b more says = refl

-- no line, as no frame names a packet
pub none_added : (d : Decoding) (s : Space) (acks : List LoggedAck) (t u : Told) → naming acks ≡ [] → u.acks ≡ t.acks → AddsAcks d s acks t u
none_added d s acks t u none same = record {
  lines = [];
  are = subst (λ (xs : List LoggedAck). AllZip (IsLineOfAck d s) xs []) (sym none) tt;
  told = same ∙ sym (append-nil t.acks);
}

are_more : (d : Decoding) (s : Space) (xs ys : List LoggedAck) (ls ms : List AckLine) → AllZip (IsLineOfAck d s) xs ls
    → AllZip (IsLineOfAck d s) ys ms → AllZip (IsLineOfAck d s) (xs ++ ys) (ls ++ ms)
are_more d s [] ys [] ms here there = there
are_more d s [] ys (l ∷ ls) ms here there = absurd here
are_more d s (x ∷ xs) ys [] ms here there = absurd here
are_more d s (x ∷ xs) ys (l ∷ ls) ms here there = (here.0, are_more d s xs ys ls ms here.1 there)

-- more frames
pub more_added : (d : Decoding) (s : Space) (xs ys : List LoggedAck) (t u v : Told) → AddsAcks d s xs t u → AddsAcks d s ys u v → AddsAcks d s (xs ++ ys) t v
more_added d s xs ys t u v first next = record {
  lines = first.lines ++ next.lines;
  are = subst (λ (zs : List LoggedAck). AllZip (IsLineOfAck d s) zs (first.lines ++ next.lines)) (sym (filter-append (λ a. has_ranges a.ranges) xs ys))
      (are_more d s (naming xs) (naming ys) first.lines next.lines first.are next.are);
  told = next.told ∙ ap (λ ls. ls ++ next.lines) first.told ∙ append_assoc t.acks first.lines next.lines;
}

-- ---- lines of packets

-- no other acknowledgment has a line, before these and after them
pub only_added : (d : Decoding) (keys : Keys) (p : LoggedPacket) (t u v w : Told) → u.acks ≡ t.acks → TellsAcks d keys p u v → w.acks ≡ v.acks → AddsAllOrNone d p t w
only_added d keys p t u v w before (inl all) behind = inl (record {
  lines = all.lines;
  are = all.are;
  told = behind ∙ all.told ∙ ap (λ acks. acks ++ all.lines) before;
})
only_added d keys p t u v w before (inr none) behind = inr (behind ∙ none.1 ∙ before)
