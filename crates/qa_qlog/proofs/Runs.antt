-- Runs of plain bytes: what the mask of a vector says of them, and that a scan may pass over them.
use Rattle.std.proofs.Common.{◌≡◌, ◌∙◌, inl, inr, ℕ, suc, ◌+◌, ◌%◌, ◌^◌, ◌<◌, ◌≤◌, ◌==◌, true, false, not, cond, eqb, List, [], ◌∷◌, map, length, drop, get_or, replicate, Fits, w8, refl, sym, ap, ap₂, arith}
use Rattle.std.proofs.lemmas.Bool.{agree_below, agree_below_at, cases_Bool, cond-false, cond-true, eq-eqb, ne_eqb, not-true, or_parts}
use Rattle.std.proofs.lemmas.List.{drop_all, drop-drop, drop_more, length-drop, length-map}
use Rattle.std.proofs.lemmas.List.Folds.{prefix_len-append}
use Rattle.std.proofs.lemmas.List.Sums.{prefix_len-le-length}
use Rattle.std.proofs.lemmas.Simd.{chunk-drop, leading_from_mask_l, length-chunk, mask_l-mod, trailing_mask_l, zip2_of_maps, zip2_splat}
use Rattle.std.specs.Prelude.{bit_or, if◌then◌else◌}
use Rattle.std.specs.List.{prefix_len}
use lib.Count.{count_trailing_zeros}
use lib.Lanes.{Each1, chunk, mask_l, top, zip2}
use Rattle.qa_qlog.specs.Outer.{backslash, further, in_value, is_closing, is_nested, is_opening, is_plain, is_structural, passed, quote, scanned}
use Rattle.qa_qlog.specs.declared.outer.Extent.{Extent}
use Rattle.qa_qlog.specs.declared.outer.Level.{Level}
use Rattle.qa_qlog.specs.declared.outer.Part.{Part}
use Rattle.qa_qlog.specs.declared.outer.Part.TheVariants as part
use Rattle.qa_qlog.specs.declared.outer.Position.{Position}

-- ---- the mask of a vector

abbrev hit : ℕ → ℕ → ℕ
hit a b = cond (eqb a b) 255 0

-- what the tests make of a byte, whose highest bit is set where it is structural
abbrev tested : ℕ → ℕ
tested b = bit_or (bit_or (bit_or (bit_or (bit_or (hit b 34) (hit b 92)) (hit b 123)) (hit b 91)) (hit b 125)) (hit b 93)

each_byte : agree_below (λ b. top 7 (tested b)) is_structural 256 ≡ true
each_byte = refl

abbrev hits : List ℕ → ℕ → List ℕ
hits v b = zip2 hit v (replicate 16 b)

-- the tests of a vector, as the code makes them
abbrev tests : List ℕ → List ℕ
tests v = zip2 bit_or (zip2 bit_or (zip2 bit_or (zip2 bit_or (zip2 bit_or (hits v 34) (hits v 92)) (hits v 123)) (hits v 91)) (hits v 125)) (hits v 93)

tests_are : (v : List ℕ) → length v ≡ 16 → tests v ≡ map tested v
tests_are v long =
    let is = λ (b : ℕ). zip2_splat hit v 16 b long in
    zip2_of_maps bit_or _ _ v (zip2_of_maps bit_or _ _ v (zip2_of_maps bit_or _ _ v (zip2_of_maps bit_or _ _ v (zip2_of_maps bit_or _ _ v (is 34) (is 92)) (is 123)) (is 91)) (is 125)) (is 93)

tops_are : (v : List ℕ) → Each1 (Fits w8) v → map (top 7) (map tested v) ≡ map is_structural v
tops_are [] fits = refl
tops_are (b ∷ bs) fits = ap₂ (λ t ts. t ∷ ts) (agree_below_at (λ x. top 7 (tested x)) is_structural 256 b each_byte fits.0.fits) (tops_are bs fits.1)

pub mask_is : (v : List ℕ) → length v ≡ 16 → Each1 (Fits w8) v → mask_l (map (top 7) (tests v)) % 2 ^ 64 ≡ mask_l (map is_structural v)
mask_is v long fits =
    ap (λ l. mask_l l % 2 ^ 64) (ap (map (top 7)) (tests_are v long) ∙ tops_are v fits)
    ∙ mask_l-mod (map is_structural v) 64 (omega (arith, length-map v is_structural, long))

-- ---- a run, from the vector at its start on

pub run_within : (bs : List ℕ) (i : ℕ) → i ≤ length bs → i + prefix_len is_plain (drop i bs) ≤ length bs
run_within bs i h = omega (arith, prefix_len-le-length is_plain (drop i bs), length-drop i bs)

-- where all bytes of a vector are plain, its mask has no bit
all_plain : (v : List ℕ) → prefix_len is_plain v ≡ length v → mask_l (map is_structural v) ≡ 0
all_plain [] all = refl
all_plain (b ∷ bs) all = elim (cases_Bool (is_structural b)) [
  | inl stops ↦
      let none : prefix_len is_plain (b ∷ bs) ≡ 0 = cond-false (is_plain b) _ _ (ap not stops) in
      absurd (omega (arith, none, all))
  | inr plain ↦
      let some : prefix_len is_plain (b ∷ bs) ≡ 1 + prefix_len is_plain bs = cond-true (is_plain b) _ _ (ap not plain) in
      let bit : ◌≡◌ {A = ℕ} (cond (is_structural b) 1 0) 0 = cond-false (is_structural b) 1 0 plain in
      omega (arith, bit, all_plain bs (omega (arith, some, all)))
]

split : (bs : List ℕ) (i n : ℕ) → prefix_len is_plain (drop i bs)
    ≡ cond (eqb (prefix_len is_plain (chunk i n bs)) (length (chunk i n bs))) (length (chunk i n bs) + prefix_len is_plain (drop (i + n) bs)) (prefix_len is_plain (chunk i n bs))
split bs i n = ap (prefix_len is_plain) (chunk-drop i n bs) ∙ prefix_len-append is_plain (chunk i n bs) (drop (i + n) bs)

-- the mask `found` of the n bytes from i on has no bit, or its lowest is where the run ends
module _ (bs : List ℕ) (i n found : ℕ) (room : i + n ≤ length bs) (mask : found ≡ mask_l (map is_structural (chunk i n bs))) where
  pub run_goes_on : found ≡ 0 → prefix_len is_plain (drop i bs) ≡ n + prefix_len is_plain (drop (i + n) bs)
  run_goes_on none =
      let all = leading_from_mask_l is_structural (chunk i n bs) (sym mask ∙ none) in
      split bs i n ∙ cond-true _ _ _ (eq-eqb _ _ all) ∙ ap (λ k. k + prefix_len is_plain (drop (i + n) bs)) (length-chunk i n bs room)

  pub run_ends : n ≤ 64 → 0 < found → prefix_len is_plain (drop i bs) ≡ count_trailing_zeros 64 found
  run_ends few some =
      let v = chunk i n bs in
      split bs i n ∙ cond-false _ _ _ (ne_eqb _ _ (λ (all : prefix_len is_plain v ≡ length v). omega (arith, mask, some, all_plain v all)))
      ∙ sym (trailing_mask_l is_structural 64 v (omega (arith, few, length-chunk i n bs room)) (omega (arith, mask, some)))
      ∙ ap (count_trailing_zeros 64) (sym mask)

-- ---- a scan

abbrev extent : ℕ → Position → Extent
extent n p = record { len = n; position = p }

further_none : (e : Extent) → e ≡ further 0 e
further_none e = let len : e.len ≡ 0 + e.len = omega arith in ap (λ n. extent n e.position) len

further_twice : (m n : ℕ) (e : Extent) → further m (further n e) ≡ further (m + n) e
further_twice m n e = let len : m + (n + e.len) ≡ m + n + e.len = omega arith in ap (λ k. extent k e.position) len

abbrev at : Level → Part → ℕ → Position
at l p d = record { level = l; part = p; depth = d }

plain_nested : (l : Level) (d b : ℕ) → is_plain b ≡ true → in_value part.Nested (at l part.Nested d) b ≡ at l part.Nested d
plain_nested l d b plain =
    let first = or_parts (b == quote) _ (not-true (is_structural b) plain) in
    let second = or_parts (b == backslash) _ first.1 in
    let third = or_parts (is_opening b) (is_closing b) second.1 in
    rw (first.0, third.0, third.1) refl

plain_text : (l : Level) (d b : ℕ) → is_plain b ≡ true → in_value part.Text (at l part.Text d) b ≡ at l part.Text d
plain_text l d b plain =
    let first = or_parts (b == quote) _ (not-true (is_structural b) plain) in
    let second = or_parts (b == backslash) _ first.1 in
    rw (first.0, second.0) refl

-- the scan of a byte and of those behind it, where q is the position behind the byte
abbrev behind : Position → List ℕ → Extent
behind q bs = if is_nested q.part then further 1 (scanned q bs) else record { len = 1; position = q }

-- bytes that leave a position where it is are passed over
over : (p : Position) → is_nested p.part ≡ true → ((b : ℕ) → is_plain b ≡ true → in_value p.part p b ≡ p)
    → (bs : List ℕ) → scanned p bs ≡ further (prefix_len is_plain bs) (scanned p (drop (prefix_len is_plain bs) bs))
over p nested stays [] = further_none (scanned p [])
over p nested stays (b ∷ bs) = elim (cases_Bool (is_plain b)) [
  | inl plain ↦
      let n = prefix_len is_plain bs in
      let many : prefix_len is_plain (b ∷ bs) ≡ suc n = cond-true (is_plain b) (1 + n) 0 plain ∙ omega arith in
      let one : behind p bs ≡ further 1 (scanned p bs) = rw nested refl in
      let both : 1 + n ≡ suc n = omega arith in
      ap (λ q. behind q bs) (stays b plain) ∙ one ∙ ap (further 1) (over p nested stays bs) ∙ further_twice 1 n (scanned p (drop n bs))
      ∙ ap (λ k. further k (scanned p (drop n bs))) both
      ∙ ap (λ k. further k (scanned p (drop k (b ∷ bs)))) (sym many)
  | inr stops ↦
      let none : prefix_len is_plain (b ∷ bs) ≡ 0 = cond-false (is_plain b) _ _ stops in
      further_none (scanned p (b ∷ bs)) ∙ ap (λ k. further k (scanned p (drop k (b ∷ bs)))) (sym none)
]

over_passed : (l : Level) (p : Part) (d : ℕ) (bs : List ℕ) → scanned (at l p d) bs ≡ further (passed p bs) (scanned (at l p d) (drop (passed p bs) bs))
over_passed l part.Nested d bs = over (at l part.Nested d) refl (plain_nested l d) bs
over_passed l part.Text d bs = over (at l part.Text d) refl (plain_text l d) bs
over_passed l p d bs = further_none (scanned (at l p d) bs)

-- the rest of the scan of all the bytes is that of those behind a place, from a position on
pub scan_jumps : (e : Extent) (p : Position) (bs : List ℕ) (len place : ℕ) → e ≡ further len (scanned p (drop len bs)) → place ≡ len + passed p.part (drop len bs)
    → e ≡ further place (scanned p (drop place bs))
scan_jumps e p bs len place so_far is =
    let n = passed p.part (drop len bs) in
    so_far ∙ ap (further len) (over_passed p.level p.part p.depth (drop len bs)) ∙ further_twice len n (scanned p (drop n (drop len bs)))
    ∙ ap (λ l. further (len + n) (scanned p l)) (drop-drop n len bs) ∙ ap (λ k. further k (scanned p (drop k bs))) (sym is)

pub scan_stops : (e : Extent) (p : Position) (bs : List ℕ) (place : ℕ) → e ≡ further place (scanned p (drop place bs)) → place ≡ length bs
    → e ≡ record { len = length bs; position = p }
scan_stops e p bs place so_far is =
    let none : drop place bs ≡ [] = drop_all place bs (omega (arith, is)) in
    let len : place + 0 ≡ length bs = omega (arith, is) in
    so_far ∙ ap (λ l. further place (scanned p l)) none ∙ ap (λ k. extent k p) len

-- where the byte b at a place leads from p to q
module _ (e : Extent) (p q : Position) (bs : List ℕ) (place b : ℕ) (so_far : e ≡ further place (scanned p (drop place bs))) (room : place < length bs) (byte : b ≡ get_or bs place 0) (moved : q ≡ in_value p.part p b) where
  one_byte : e ≡ further place (behind q (drop (place + 1) bs))
  one_byte =
      so_far ∙ ap (λ l. further place (scanned p l)) (drop_more bs place 0 room)
      ∙ ap (λ x. further place (behind (in_value p.part p x) (drop (place + 1) bs))) (sym byte)
      ∙ ap (λ r. further place (behind r (drop (place + 1) bs))) (sym moved)

  pub scan_goes_on : is_nested q.part ≡ true → e ≡ further (place + 1) (scanned q (drop (place + 1) bs))
  scan_goes_on nested =
      let rest = drop (place + 1) bs in
      let one : behind q rest ≡ further 1 (scanned q rest) = rw nested refl in
      one_byte ∙ ap (further place) one ∙ further_twice place 1 (scanned q rest)

  pub scan_ends : is_nested q.part ≡ false → e ≡ record { len = place + 1; position = q }
  scan_ends whole =
      let rest = drop (place + 1) bs in
      let one : behind q rest ≡ record { len = 1; position = q } = rw whole refl in
      one_byte ∙ ap (further place) one
