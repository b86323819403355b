-- Where no packet in flight of a space lies below its largest acknowledged number, a detection finds none.
use Rattle.std.proofs.Common.{◌≡◌, ◌∙◌, ℕ, List, [], ◌∷◌, map, Bool, true, false, ◌&&◌, ◌||◌, not, Option, Some, None, refl, sym, ap}
use Rattle.std.proofs.lemmas.Bool.{and_right, or_parts}
use Rattle.std.specs.List.{list_any}
use Rattle.std.specs.Prelude.{if◌then◌else◌, nat_lt, unwrap_or}
use Rattle.qa_base.specs.declared.space.Space.{Space}
use Rattle.qa_base.specs.machine.Detection.{is_old}
use Rattle.qa_base.specs.machine.Packets.{is_below_largest}
use Rattle.qa_base.specs.values.Settings.{is_may}
use Rattle.qa_sender.specs.Standing.{replaced}
use Rattle.qa_sent_packets.specs.Fates.{is_flying}
use Rattle.qa_sent_packets.specs.Held.{Held}
use Rattle.qa_sent_packets.specs.Steps.{Thresholds, found_by, is_past_threshold_by, packet_at, with_fate}
use Rattle.qa_sent_packets.specs.declared.fate.Fate.TheVariants.{Owed}
use Rattle.qa_sent_packets.specs.declared.packet.SentPacket.{SentPacket}

past_cut : (flies below rest : Bool) → (flies && below) ≡ false → (flies && (below && rest)) ≡ false
past_cut true true rest is = cc
past_cut true false rest is = refl
past_cut false below rest is = refl

left_if : (p : SentPacket) (b : Bool) → b ≡ false → (if b then with_fate Owed p else p) ≡ p
left_if p true is = cc
left_if p false is = refl

-- what a threshold asks beside the largest acknowledged number
abbrev rest_of : Thresholds → SentPacket → Bool
rest_of l p = (not (is_may l.header.options.loss_by_number) && nat_lt p.number l.far_end) || is_old l.header l.rtt l.now (packet_at p)

below_cut : (s : Space) (l : Thresholds) (o : Option ℕ) (p : SentPacket) → l.largest ≡ o → (is_flying s p && nat_lt p.number (unwrap_or o 0)) ≡ false
    → (is_flying s p && is_past_threshold_by l p) ≡ false
below_cut s l None p is none = ap (λ o. is_flying s p && (is_below_largest p.number o && rest_of l p)) is ∙ and_right (is_flying s p) false refl
below_cut s l (Some m) p is none = ap (λ o. is_flying s p && (is_below_largest p.number o && rest_of l p)) is ∙ past_cut (is_flying s p) (nat_lt p.number m) (rest_of l p) none

none_below : (s : Space) (l : Thresholds) (ps : List SentPacket) → list_any (λ p. is_flying s p && nat_lt p.number (unwrap_or l.largest 0)) ps ≡ false → map (found_by s l) ps ≡ ps
none_below s l [] none = refl
none_below s l (p ∷ ps) none =
    let test : SentPacket → Bool = λ q. is_flying s q && nat_lt q.number (unwrap_or l.largest 0) in
    let parts = or_parts (test p) (list_any test ps) none in
    let here = left_if p (is_flying s p && is_past_threshold_by l p) (below_cut s l l.largest p refl parts.0) in
    ap (λ q. q ∷ map (found_by s l) ps) here ∙ ap (λ qs. p ∷ qs) (none_below s l ps parts.1)

abbrev with_packets : Held → List SentPacket → Held
with_packets held ps = record { dropped = held.dropped; packets = ps; strays = held.strays }

-- the packets held are those that a detection leaves
pub unfound : (s : Space) (l : Thresholds) (held : Held) → list_any (λ p. is_flying s p && nat_lt p.number (unwrap_or l.largest 0)) held.packets ≡ false → held ≡ replaced (found_by s l) held
unfound s l held none = ap (with_packets held) (sym (none_below s l held.packets none))
