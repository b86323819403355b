-- Ranges that are found one after another, up to the end of their list.
use Rattle.std.proofs.Common.{◌≡◌, ◌∙◌, ◌+◌, ◌<◌, ◌≤◌, ℕ, suc, List, [], ◌∷◌, ◌++◌, Bool, true, false, cond, Some, None, length, drop, get_or, decimal, take-append-drop, drop-drop, refl, sym, ap, subst, arith, append_assoc}
use Rattle.std.specs.Prelude.{nat_le}
use Rattle.std.specs.List.{AllByRecursion}
use Rattle.std.proofs.lemmas.Bool.{leb-true}
use Rattle.json.specs.Lex.{token, comma, between, lex}
use Rattle.json.specs.Token as tokens
use Rattle.serde_json.specs.Written.{outline}
use Rattle.qa_format.specs.format.Written.{integer_pair}
use Rattle.qa_base.specs.values.Events.{has_ranges}
use Rattle.qa_base.specs.values.Limits.{max_packet_number, in_range}
use Rattle.qa_format.specs.format.Proper.{IsRange}
use Rattle.qa_format.proofs.format.Compact.{of_json-outline, depth-outline}
use Rattle.qa_format.proofs.format.KeysWritten.{ranges_are_kept}
use Rattle.qa_scan.specs.Lexes.{Lexes, lexemes, IsValueOf}
use Rattle.qa_fast_reader.specs.Ranges.{Spans, ranges_data, IsBehindSpace, IsPair, TakesRange, TakesRanges, FollowsRanges, IsShortRange}
use Rattle.qa_scan.proofs.Lexing.{ends_then, then, lexes_nothing, one_space, lexes_begin_array, lexes_comma, lexes_end_array, lexes_integer}
use Rattle.qa_scan.specs.Short.{IsShort, AreTwoCodes}
use Rattle.std.proofs.lemmas.List.{drop_more}
use Rattle.json.specs.Word.{ends_word}
use Rattle.qa_fast_reader.proofs.Saying.{range_is}

-- ---- a range

ordered : (b : Bool) (range span : ℕ × ℕ) → cond b (Some range) None ≡ Some span → (b ≡ true) × (range ≡ span)
ordered true range span is = (refl, cc)
ordered false range span is = cc

-- two numbers in brackets
pub is_pair : (l h : ℕ) (bytes a b c d rest : List ℕ)
    → Lexes bytes a (token tokens.begin_array ∷ []) → Lexes a b (token (tokens.number (decimal l)) ∷ []) → Lexes b c (comma ∷ []) → Lexes c d (token (tokens.number (decimal h)) ∷ [])
    → Lexes d rest (token tokens.end_array ∷ []) → IsPair l h bytes rest
is_pair l h bytes a b c d rest opened first parted second closed = then opened (then first (then parted (then second closed)))

pub takes_range : (old new : Spans) (l h lo hi : ℕ) (span : ℕ × ℕ) (bytes a b c d rest : List ℕ)
    → Lexes bytes a (token tokens.begin_array ∷ []) → Lexes a b (token (tokens.number (decimal l)) ∷ []) → Lexes b c (comma ∷ []) → Lexes c d (token (tokens.number (decimal h)) ∷ [])
    → Lexes d rest (token tokens.end_array ∷ []) → in_range 0 max_packet_number l ≡ Some lo → in_range 0 max_packet_number h ≡ Some hi
    → cond (nat_le lo hi) (Some (lo, hi)) None ≡ Some span → new ≡ old ++ span ∷ [] → TakesRange old new bytes rest
takes_range old new l h lo hi span bytes a b c d rest opened first parted second closed in_lo in_hi in_order is_new =
    let low = range_is max_packet_number l lo in_lo in
    let high = range_is max_packet_number h hi in_hi in
    let order = ordered (nat_le lo hi) (lo, hi) span in_order in
    let are : (l, h) ≡ span = (λ i. (low.0 i, high.0 i)) ∙ order.1 in
    let below : lo ≤ hi = leb-true lo hi order.0 in
    let is_lo : lo ≡ span.0 = ap (λ p. p.0) order.1 in
    let is_hi : hi ≡ span.1 = ap (λ p. p.1) order.1 in
    let P : ℕ × ℕ → Type 0 = λ p. Lexes bytes rest (lexemes (outline (integer_pair p))) in
    record {
      range = span;
      is_new = is_new;
      is_range = (omega (arith, is_lo, is_hi), omega (arith, is_hi, high.1));
      lexed = subst P are (is_pair l h bytes a b c d rest opened first parted second closed);
    }

-- what stands behind a short number, and that it stands behind its digits
behind_short : (bs : List ℕ) (n d : ℕ) → IsShort bs n d → 0 < n → bs ≡ decimal n ++ drop d bs
behind_short bs n d short some = sym (take-append-drop d bs) ∙ ap (λ l. l ++ drop d bs) (short.is_text some)

-- a byte at a place, and what stands behind it
byte_at : (bs : List ℕ) (i b : ℕ) → i < length bs → get_or bs i 0 ≡ b → drop i bs ≡ b ∷ drop (i + 1) bs
byte_at bs i b within is = drop_more bs i 0 within ∙ ap (λ x. x ∷ drop (i + 1) bs) is

-- a range of short numbers, from the places of its parts
pub short_range_is : (l h d e : ℕ) (bytes inside second : List ℕ) → 36 ≤ length bytes → bytes ≡ 91 ∷ inside → 0 < l → l ≤ h → IsShort inside l d → get_or bytes (1 + d) 0 ≡ 44
    → second ≡ drop (1 + d + 1) bytes → IsShort second h e → IsShortRange bytes l h (1 + d + 1 + e)
short_range_is l h d e bytes inside second long opened some ordered low parted is_second high =
    let next : 1 + d ≡ suc d = omega arith in
    let place : drop (1 + d) bytes ≡ drop d inside = ap (λ k. drop k bytes) next ∙ ap (drop (suc d)) opened in
    let behind : drop e second ≡ drop (1 + d + 1 + e) bytes = ap (drop e) is_second ∙ drop-drop e (1 + d + 1) bytes in
    let upper : second ≡ decimal h ++ drop (1 + d + 1 + e) bytes = behind_short second h e high (omega (arith, some, ordered)) ∙ ap (λ b. decimal h ++ b) behind in
    let comma_is : drop d inside ≡ 44 ∷ second = sym place ∙ byte_at bytes (1 + d) 44 (omega (arith, long, low.few)) parted ∙ ap (λ b. 44 ∷ b) (sym is_second) in
    record {
      is = opened ∙ ap (λ b. 91 ∷ b) (behind_short inside l d low some ∙ ap (λ b. decimal l ++ b) (comma_is ∙ ap (λ b. 44 ∷ b) upper));
      ordered = ordered;
      small = high.small;
      near = omega (arith, low.few, high.few);
    }

-- a space at a place, or none
pub behind_a_space : (bs : List ℕ) (i : ℕ) → i < length bs → get_or bs i 0 ≡ 32 → IsBehindSpace bs i (i + 1)
behind_a_space bs i within is = record { from = omega arith; near = omega arith; spaced = one_space _ _ (byte_at bs i 32 within is) }

pub behind_no_space : (bs : List ℕ) (i : ℕ) → IsBehindSpace bs i i
behind_no_space bs i = record { from = omega arith; near = omega arith; spaced = lexes_nothing _ }

-- a range of short numbers, from the places of its parts, with one space between its numbers at most
pub short_pair_is : (l h d e next : ℕ) (bytes inside second : List ℕ) → 37 ≤ length bytes → bytes ≡ 91 ∷ inside → 0 < l → l ≤ h → IsShort inside l d → get_or bytes (1 + d) 0 ≡ 44
    → IsBehindSpace bytes (1 + d + 1) next → second ≡ drop next bytes → IsShort second h e → get_or bytes (next + e) 0 ≡ 93 → IsPair l h bytes (drop (next + e + 1) bytes)
short_pair_is l h d e next bytes inside second long opened some ordered low parted spaced is_second high closed =
    let one : 1 + d ≡ suc d = omega arith in
    let place : drop (1 + d) bytes ≡ drop d inside = ap (λ k. drop k bytes) one ∙ ap (drop (suc d)) opened in
    let lower : inside ≡ decimal l ++ drop (1 + d) bytes = behind_short inside l d low some ∙ ap (λ b. decimal l ++ b) (sym place) in
    let comma_is : drop (1 + d) bytes ≡ 44 ∷ drop (1 + d + 1) bytes = byte_at bytes (1 + d) 44 (omega (arith, long, low.few)) parted in
    let behind : drop e second ≡ drop (next + e) bytes = ap (drop e) is_second ∙ drop-drop e next bytes in
    let upper : second ≡ decimal h ++ drop (next + e) bytes = behind_short second h e high (omega (arith, some, ordered)) ∙ ap (λ b. decimal h ++ b) behind in
    let end_is : drop (next + e) bytes ≡ 93 ∷ drop (next + e + 1) bytes = byte_at bytes (next + e) 93 (omega (arith, long, low.few, high.few, spaced.near)) closed in
    let between : Lexes (drop (1 + d + 1) bytes) second [] = subst (λ (b : List ℕ). Lexes (drop (1 + d + 1) bytes) b []) (sym is_second) spaced.spaced in
    is_pair l h bytes inside (drop (1 + d) bytes) second (drop (next + e) bytes) (drop (next + e + 1) bytes)
    (lexes_begin_array bytes inside opened)
    (lexes_integer l inside (drop (1 + d) bytes) (omega (arith, ordered, high.small)) (ap ends_word comma_is) lower)
    (then (lexes_comma _ _ comma_is) between)
    (lexes_integer h second (drop (next + e) bytes) (omega (arith, high.small)) (ap ends_word end_is) upper)
    (lexes_end_array _ _ end_is)

-- the same as a range that goes behind the others, where it is closed
short_takes : (old new : Spans) (l h end : ℕ) (bytes rest : List ℕ) → IsShortRange bytes l h end → drop end bytes ≡ 93 ∷ rest → new ≡ old ++ (l, h) ∷ [] → IsRange (l, h) → TakesRange old new bytes rest
short_takes old new l h end bytes rest short closed is_new is_range =
    let upper : List ℕ = decimal h ++ drop end bytes in
    let lower : List ℕ = decimal l ++ 44 ∷ upper in
    let opened = lexes_begin_array bytes lower short.is in
    let first = lexes_integer l lower (44 ∷ upper) (omega (arith, short.ordered, short.small)) refl refl in
    let parted = lexes_comma (44 ∷ upper) upper refl in
    let second = lexes_integer h upper (drop end bytes) (omega (arith, short.small)) (ap ends_word closed) refl in
    record {
      range = (l, h);
      is_new = is_new;
      is_range = is_range;
      lexed = then opened (then first (then parted (then second (lexes_end_array (drop end bytes) rest closed))));
    }

-- numbers of a range are the range
pub put_is : (old new : Spans) (l h lo hi : ℕ) (span : ℕ × ℕ) → in_range 0 max_packet_number l ≡ Some lo → in_range 0 max_packet_number h ≡ Some hi → cond (nat_le lo hi) (Some (lo, hi)) None ≡ Some span
    → new ≡ old ++ span ∷ [] → (new ≡ old ++ (l, h) ∷ []) × IsRange (l, h)
put_is old new l h lo hi span in_lo in_hi in_order is_new =
    let low = range_is max_packet_number l lo in_lo in
    let high = range_is max_packet_number h hi in_hi in
    let order = ordered (nat_le lo hi) (lo, hi) span in_order in
    let are : span ≡ (l, h) = sym ((λ i. (low.0 i, high.0 i)) ∙ order.1) in
    let below : lo ≤ hi = leb-true lo hi order.0 in
    (is_new ∙ ap (λ s. old ++ s ∷ []) are, (omega (arith, low.0, high.0, below), omega (arith, high.0, high.1)))

-- ---- the list

are_more : (rs : Spans) (r : ℕ × ℕ) → AllByRecursion IsRange rs → IsRange r → AllByRecursion IsRange (rs ++ r ∷ [])
are_more [] r are one = (one, tt)
are_more (q ∷ rs) r are one = (are.0, are_more rs r are.1 one)

have_more : (rs : Spans) (r : ℕ × ℕ) → has_ranges (rs ++ r ∷ []) ≡ true
have_more [] r = refl
have_more (q ∷ rs) r = refl

pub ranges_begin : (bytes rest : List ℕ) → Lexes bytes rest (token tokens.begin_array ∷ []) → FollowsRanges [] bytes rest
ranges_begin bytes rest opened = record { are = tt; ends = opened.ends; utf8 = opened.utf8; lexes = λ r more behind lexed. opened.lexes ∙ ap (λ ls. token tokens.begin_array ∷ ls) lexed }

pub ranges_go_on : (old new : Spans) (bytes rest behind more : List ℕ) → FollowsRanges old bytes rest → TakesRange old new rest behind → Lexes behind more (comma ∷ [])
    → FollowsRanges new bytes more
ranges_go_on old new bytes rest behind more before one parted =
    let P : Spans → Type 0 = λ rs. FollowsRanges rs bytes more in
    subst P (sym one.is_new) (record {
      are = are_more old one.range before.are one.is_range;
      ends = ends_then before.ends (ends_then one.lexed.ends parted.ends);
      utf8 = λ u. before.utf8 (one.lexed.utf8 (parted.utf8 u));
      lexes = λ r later end is.
          before.lexes one.range (r ∷ later) end
          (one.lexed.lexes ∙ ap (λ ls. lexemes (outline (integer_pair one.range)) ++ ls) (parted.lexes ∙ ap (λ ls. comma ∷ ls) is))
          ∙ ap (λ rs. lexemes (outline (ranges_data rs)) ++ end) (sym (append_assoc old (one.range ∷ []) (r ∷ later)));
    })

pub ranges_end : (old new : Spans) (bytes rest behind more : List ℕ) → FollowsRanges old bytes rest → TakesRange old new rest behind → Lexes behind more (token tokens.end_array ∷ [])
    → TakesRanges new bytes more
ranges_end old new bytes rest behind more before one closed =
    let P : Spans → Type 0 = λ rs. TakesRanges rs bytes more in
    subst P (sym one.is_new) (record {
      some = have_more old one.range;
      are = are_more old one.range before.are one.is_range;
      lexed = record {
        ends = ends_then before.ends (ends_then one.lexed.ends closed.ends);
        lexes = before.lexes one.range [] (lex between more) (one.lexed.lexes ∙ ap (λ ls. lexemes (outline (integer_pair one.range)) ++ ls) closed.lexes);
        utf8 = λ u. before.utf8 (one.lexed.utf8 (closed.utf8 u));
      };
    })

-- a short range with a comma behind it, or with the end of the list
pub short_goes_on : (old new : Spans) (l h end codes : ℕ) (bytes rest more : List ℕ) → 36 ≤ length rest → FollowsRanges old bytes rest → IsShortRange rest l h end → AreTwoCodes rest end codes → codes ≡ 11357
    → new ≡ old ++ (l, h) ∷ [] → IsRange (l, h) → more ≡ drop (end + 1 + 1) rest → FollowsRanges new bytes more
short_goes_on old new l h end codes bytes rest more long before short two is is_new is_range is_more =
    let closed : get_or rest end 0 ≡ 93 = omega (arith, two.are, two.first, two.second, is) in
    let comma_is : get_or rest (end + 1) 0 ≡ 44 = omega (arith, two.are, two.first, two.second, is) in
    let behind : drop end rest ≡ 93 ∷ drop (end + 1) rest = byte_at rest end 93 (omega (arith, long, short.near)) closed in
    let next : drop (end + 1) rest ≡ 44 ∷ more = byte_at rest (end + 1) 44 (omega (arith, long, short.near)) comma_is ∙ ap (λ b. 44 ∷ b) (sym is_more) in
    ranges_go_on old new bytes rest (drop (end + 1) rest) more before (short_takes old new l h end rest (drop (end + 1) rest) short behind is_new is_range) (lexes_comma _ more next)

pub short_ends : (old new : Spans) (l h end codes : ℕ) (bytes rest more : List ℕ) → 36 ≤ length rest → FollowsRanges old bytes rest → IsShortRange rest l h end → AreTwoCodes rest end codes → codes ≡ 23901
    → new ≡ old ++ (l, h) ∷ [] → IsRange (l, h) → more ≡ drop (end + 1 + 1) rest → TakesRanges new bytes more
short_ends old new l h end codes bytes rest more long before short two is is_new is_range is_more =
    let closed : get_or rest end 0 ≡ 93 = omega (arith, two.are, two.first, two.second, is) in
    let end_is : get_or rest (end + 1) 0 ≡ 93 = omega (arith, two.are, two.first, two.second, is) in
    let behind : drop end rest ≡ 93 ∷ drop (end + 1) rest = byte_at rest end 93 (omega (arith, long, short.near)) closed in
    let next : drop (end + 1) rest ≡ 93 ∷ more = byte_at rest (end + 1) 93 (omega (arith, long, short.near)) end_is ∙ ap (λ b. 93 ∷ b) (sym is_more) in
    ranges_end old new bytes rest (drop (end + 1) rest) more before (short_takes old new l h end rest (drop (end + 1) rest) short behind is_new is_range) (lexes_end_array _ more next)

pub ranges_value : (rs : Spans) (bytes rest : List ℕ) → TakesRanges rs bytes rest → IsValueOf (ranges_data rs) bytes rest
ranges_value rs bytes rest found =
    let kept = ranges_are_kept rs found.are in
    record {
      form = outline (ranges_data rs);
      reads = of_json-outline (ranges_data rs) kept.simple;
      shallow = omega (arith, depth-outline (ranges_data rs), kept.shallow);
      lexed = found.lexed;
    }
