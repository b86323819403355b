-- What is told of one more that was found.
use Rattle.std.proofs.Common.{◌≡◌, ◌∙◌, ◌+◌, ◌<◌, ◌≤◌, ℕ, Bool, true, false, List, [], ◌∷◌, ◌++◌, append_assoc, ap, length, map, refl, subst, sym}
use Rattle.std.proofs.lemmas.Bool.{leb-false, leb-true}
use Rattle.std.proofs.lemmas.Grind.{flat_map-append}
use Rattle.std.proofs.lemmas.List.{append-nil, length_push}
use Rattle.std.proofs.lemmas.List.Elements.{filter_map-append}
use Rattle.std.proofs.lemmas.List.Folds.{list_any-append}
use Rattle.std.proofs.lemmas.Slice.Eq.{bytes_eq-Decides}
use Rattle.std.specs.List.{cons_option, flat_map, list_any}
use Rattle.std.specs.Prelude.{◌||◌, bytes_eq, filter_map, String, nat_le, string_bytes}
use Rattle.std.specs.declared.alloc.Global.{Global}
use Rattle.qa_base.specs.declared.event.Event.{Event}
use Rattle.qa_base.specs.declared.header.Version.{Version}
use Rattle.qa_why_command.proofs.warnings_lemmas.Firsts.{IsPassedOn, first_again, first_full, first_more, is_in}
use Rattle.qa_why_command.specs.warnings.Found.{Concern, Found, HeaderKey, LargePacket, MetricsKey, at}
use Rattle.qa_why_command.specs.warnings.Keeping.{AreOf, Tells, is_packet, metrics_key}
use Rattle.qa_why_command.specs.warnings.Texts.{head, sentence, warning_text}
use Rattle.qa_why_command.specs.declared.warnings.told.Told.{Told}
use Rattle.qa_why_command.specs.warnings.Warnings.{are_same, is_same, most_warnings, told}

-- ---- which are the same

equal_bytes : (k l m : List ℕ) → bytes_eq k l ≡ true → bytes_eq l m ≡ true → bytes_eq k m ≡ true
equal_bytes k l m kl lm = rw ((bytes_eq-Decides k l).0 kl) lm

are_passed_on : (a b c : Concern) → are_same a b ≡ true → are_same b c ≡ true → are_same a c ≡ true
are_passed_on (HeaderKey v k) b c ab bc = let never : false ≡ true = ab in cc
are_passed_on (MetricsKey v k) (HeaderKey w l) c ab bc = let never : false ≡ true = ab in cc
are_passed_on (MetricsKey v k) (LargePacket e size most) c ab bc = let never : false ≡ true = ab in cc
are_passed_on (MetricsKey v k) (MetricsKey w l) (HeaderKey x m) ab bc = let never : false ≡ true = bc in cc
are_passed_on (MetricsKey v k) (MetricsKey w l) (LargePacket e size most) ab bc = let never : false ≡ true = bc in cc
are_passed_on (MetricsKey v k) (MetricsKey w l) (MetricsKey x m) ab bc = equal_bytes k l m ab bc
are_passed_on (LargePacket e size most) (HeaderKey w l) c ab bc = let never : false ≡ true = ab in cc
are_passed_on (LargePacket e size most) (MetricsKey w l) c ab bc = let never : false ≡ true = ab in cc
are_passed_on (LargePacket e size most) (LargePacket f length least) (HeaderKey x m) ab bc = let never : false ≡ true = bc in cc
are_passed_on (LargePacket e size most) (LargePacket f length least) (MetricsKey x m) ab bc = let never : false ≡ true = bc in cc
are_passed_on (LargePacket e size most) (LargePacket f length least) (LargePacket g bytes limit) ab bc = refl

same_passes : IsPassedOn is_same
same_passes a b c ab bc = are_passed_on a.concern b.concern c.concern ab bc

-- ---- no key of a header is the same as another

never_header : (c : Concern) (v : Version) (k : List ℕ) → are_same c (HeaderKey v k) ≡ false
never_header (HeaderKey w m) v k = refl
never_header (MetricsKey w m) v k = refl
never_header (LargePacket e size most) v k = refl

pub no_header : (fs : List Found) (n : ℕ) (v : Version) (k : List ℕ) → is_in is_same fs (at n (HeaderKey v k)) ≡ false
no_header [] n v k = refl
no_header (f ∷ fs) n v k = rw (never_header f.concern v k) (no_header fs n v k)

-- ---- keys of metrics lines that were told

-- a test of what a list is made into
pub any_of_map : {X Y : Type 0} (test : Y → Bool) (f : X → Y) (xs : List X) → list_any test (map f xs) ≡ list_any (λ x. test (f x)) xs
any_of_map test f [] = refl
any_of_map test f (x ∷ xs) = ap (λ b. test (f x) || b) (any_of_map test f xs)

same_key_at : (c : Concern) (v : Version) (k : List ℕ) (ks : List (List ℕ))
    → (are_same c (MetricsKey v k) || list_any (λ m. bytes_eq m k) ks) ≡ list_any (λ m. bytes_eq m k) (cons_option (metrics_key c) ks)
same_key_at (HeaderKey w m) v k ks = refl
same_key_at (MetricsKey w m) v k ks = refl
same_key_at (LargePacket e size most) v k ks = refl

pub same_key : (fs : List Found) (n : ℕ) (v : Version) (k : List ℕ)
    → is_in is_same fs (at n (MetricsKey v k)) ≡ list_any (λ m. bytes_eq m k) (filter_map (λ f. metrics_key f.concern) fs)
same_key [] n v k = refl
same_key (f ∷ fs) n v k =
    ap (λ b. are_same f.concern (MetricsKey v k) || b) (same_key fs n v k) ∙ same_key_at f.concern v k (filter_map (λ f. metrics_key f.concern) fs)

-- by the keys that are kept
pub key_told : (fs : List Found) (n : ℕ) (v : Version) (k : List ℕ) (kept : List (String Global)) (b : Bool) → map string_bytes kept ≡ filter_map (λ f. metrics_key f.concern) fs
    → list_any (λ m. bytes_eq (string_bytes m) k) kept ≡ b → is_in is_same fs (at n (MetricsKey v k)) ≡ b
key_told fs n v k kept b same is =
    same_key fs n v k ∙ (ap (list_any (λ m. bytes_eq m k)) (sym same) ∙ (any_of_map (λ m. bytes_eq m k) string_bytes kept ∙ is))

-- ---- whether a packet was told

same_packet_at : (c : Concern) (e : Event) (size most : ℕ) → are_same c (LargePacket e size most) ≡ is_packet c
same_packet_at (HeaderKey w m) e size most = refl
same_packet_at (MetricsKey w m) e size most = refl
same_packet_at (LargePacket f length least) e size most = refl

pub same_packet : (fs : List Found) (n : ℕ) (e : Event) (size most : ℕ) → is_in is_same fs (at n (LargePacket e size most)) ≡ list_any (λ f. is_packet f.concern) fs
same_packet [] n e size most = refl
same_packet (f ∷ fs) n e size most = rw (same_packet_at f.concern e size most, same_packet fs n e size most) refl

-- ---- what is told

-- no more where they are a hundred
pub told_full : (fs gs : List Found) → most_warnings ≤ length (told fs) → told (fs ++ gs) ≡ told fs
unfolding told
told_full fs gs full = first_full is_same same_passes most_warnings fs gs full

-- not what was told
pub told_again : (fs : List Found) (f : Found) → is_in is_same (told fs) f ≡ true → told (fs ++ f ∷ []) ≡ told fs
unfolding told
told_again fs f again = first_again is_same same_passes most_warnings fs f again

pub told_more : (fs : List Found) (f : Found) → length (told fs) < most_warnings → is_in is_same (told fs) f ≡ false → told (fs ++ f ∷ []) ≡ told fs ++ f ∷ []
unfolding told
told_more fs f few none = first_more is_same same_passes most_warnings fs f few none

-- ---- the text of one more, and the rest

pub texts-snoc : (name : List ℕ) (fs : List Found) (f : Found) → flat_map (warning_text name) (fs ++ f ∷ []) ≡ flat_map (warning_text name) fs ++ head name f.line ++ sentence f.concern
unfolding warning_text
texts-snoc name fs f =
    flat_map-append (warning_text name) fs (f ∷ [])
    ∙ (ap (λ (text : List ℕ). flat_map (warning_text name) fs ++ text) (append-nil (head name f.line ++ sentence f.concern))
    ∙ sym (append_assoc (flat_map (warning_text name) fs) (head name f.line) (sentence f.concern)))

pub keys-snoc : (fs : List Found) (f : Found)
    → filter_map (λ f. metrics_key f.concern) (fs ++ f ∷ []) ≡ filter_map (λ f. metrics_key f.concern) fs ++ cons_option (metrics_key f.concern) []
keys-snoc fs f = filter_map-append (λ (f : Found). metrics_key f.concern) fs (f ∷ [])

pub packets-snoc : (fs : List Found) (f : Found)
    → list_any (λ f. is_packet f.concern) (fs ++ f ∷ []) ≡ (list_any (λ f. is_packet f.concern) fs || (is_packet f.concern || false))
packets-snoc fs f = list_any-append (λ (f : Found). is_packet f.concern) fs (f ∷ [])

-- ---- what is kept

-- of nothing
pub told_none : told [] ≡ []
unfolding told
told_none = refl

-- where a hundred were told
pub full_stays : (name : List ℕ) (t : Told) (fs gs : List Found) → nat_le most_warnings t.count ≡ true → Tells name t fs → Tells name t (fs ++ gs)
full_stays name t fs gs full tells =
    let enough : most_warnings ≤ length (told fs) = subst (λ n. most_warnings ≤ n) tells.1 (leb-true most_warnings t.count full) in
    subst (AreOf name t.text.items t.count (map string_bytes t.keys.items) t.has_packet) (sym (told_full fs gs enough)) tells

-- where the same was told
pub again_stays : (name : List ℕ) (t : Told) (fs : List Found) (f : Found) → is_in is_same (told fs) f ≡ true → Tells name t fs → Tells name t (fs ++ f ∷ [])
again_stays name t fs f again tells = subst (AreOf name t.text.items t.count (map string_bytes t.keys.items) t.has_packet) (sym (told_again fs f again)) tells

-- where it is told
pub one_more : (name text text' : List ℕ) (count count' : ℕ) (keys keys' : List (List ℕ)) (has has' : Bool) (fs : List Found) (f : Found)
    → nat_le most_warnings count ≡ false → is_in is_same (told fs) f ≡ false → AreOf name text count keys has (told fs)
    → text' ≡ text ++ head name f.line ++ sentence f.concern → count' ≡ count + 1
    → keys' ≡ keys ++ cons_option (metrics_key f.concern) [] → has' ≡ (has || (is_packet f.concern || false))
    → AreOf name text' count' keys' has' (told (fs ++ f ∷ []))
one_more name text text' count count' keys keys' has has' fs f not_full none tells texts counts are_keys packets =
    let few : length (told fs) < most_warnings = subst (λ n. n < most_warnings) tells.1 (leb-false most_warnings count not_full) in
    subst (AreOf name text' count' keys' has') (sym (told_more fs f few none)) (
      texts ∙ (ap (λ (t : List ℕ). t ++ head name f.line ++ sentence f.concern) tells.0 ∙ sym (texts-snoc name (told fs) f)),
      counts ∙ (ap (λ n. n + 1) tells.1 ∙ sym (length_push (told fs) f)),
      are_keys ∙ (ap (λ (ks : List (List ℕ)). ks ++ cons_option (metrics_key f.concern) []) tells.2 ∙ sym (keys-snoc (told fs) f)),
      packets ∙ (ap (λ b. b || (is_packet f.concern || false)) tells.3 ∙ sym (packets-snoc (told fs) f)),
    )

-- ---- tests

pub or_none : (b : Bool) → b ≡ (b || false)
or_none true = refl
or_none false = refl

pub or_some : (b : Bool) → true ≡ (b || true)
or_some true = refl
or_some false = refl
