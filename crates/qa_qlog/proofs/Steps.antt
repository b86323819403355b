-- What a cutter shows after it read on.
use Rattle.std.proofs.Common.{◌≡◌, ◌≢◌, ◌∙◌, ◌∷◌, ◌++◌, ◌+◌, ◌<◌, ◌≤◌, ◌&&◌, ℕ, Bool, true, false, List, [], Ok, Err, length, take, drop, refl, sym, ap, arith}
use Rattle.std.proofs.lemmas.List.{length-drop}
use Rattle.std.proofs.lemmas.Bool.{lt-leb}
use Rattle.std.specs.Prelude.{min, nat_le, if◌then◌else◌}
use Rattle.qa_qlog.specs.Cuts.{State, Goes, Gives, Uncut, add, added, emptied, keep, kept, put, cut_of, moved_to, record_limit, skeleton_limit}
use Rattle.qa_qlog.specs.Cutting.{IsNext, Reads, failed, left, passed, read_log, without}
use Rattle.qa_qlog.specs.Outer.{is_events, is_nested, is_open, is_whole, is_within, last, scanned}
use Rattle.qa_qlog.specs.declared.cutter.CutFault.{CutFault}
use Rattle.qa_qlog.specs.declared.cutter.CutFault.TheVariants as cause
use Rattle.qa_qlog.specs.declared.cutter.Step.TheVariants.{Found, Going}
use Rattle.qa_qlog.specs.declared.outer.Extent.{Extent}
use Rattle.qa_qlog.specs.declared.outer.Position.{Position}
use Rattle.qa_qlog.proofs.Scans.{Inside, after_those, long_cuts, scan_cuts, scanned_some}

-- ---- one byte

pub passed_view : (v n : Uncut) (bytes : List ℕ) → v ≡ n → bytes ≡ drop 1 v.bytes
    → record v { state = emptied v.state; bytes = bytes } ≡ passed n (emptied n.state)
passed_view v n bytes same are =
    ap (λ (bs : List ℕ). record v { state = emptied v.state; bytes = bs }) are
    ∙ ap (λ (u : Uncut). record u { state = emptied u.state; bytes = drop 1 u.bytes }) same

pub next_view : (v n : Uncut) (b : ℕ) → v ≡ n → IsNext b n → IsNext b v
next_view v n b same next = ap (λ (u : Uncut). u.bytes) same ∙ next ∙ ap (λ (u : Uncut). b ∷ drop 1 u.bytes) (sym same)

abbrev with_text : State → List ℕ → State
with_text s text = record s { text = text }

pub added_view : (v n : Uncut) (b : ℕ) (text bytes : List ℕ) → v ≡ n → text ≡ v.state.text ++ b ∷ [] → bytes ≡ drop 1 v.bytes
    → record v { state = with_text v.state text; bytes = bytes } ≡ passed n (with_text n.state (n.state.text ++ b ∷ []))
added_view v n b text bytes same text_is are =
    ap (λ (bs : List ℕ). record v { state = with_text v.state text; bytes = bs }) are
    ∙ ap (λ (t : List ℕ). record v { state = with_text v.state t; bytes = drop 1 v.bytes }) text_is
    ∙ ap (λ (u : Uncut). record u { state = with_text u.state (u.state.text ++ b ∷ []); bytes = drop 1 u.bytes }) same

pub adds : (s : State) (p : Position) (b : ℕ) → length s.text < record_limit → is_within p.part ≡ true → add s p b ≡ Goes (added s p b)
adds s p b short within =
    let room : nat_le record_limit (length s.text) ≡ false = lt-leb record_limit (length s.text) short in
    rw (room, within) refl

pub ends : (s : State) (p : Position) (b : ℕ) → length s.text < record_limit → is_within p.part ≡ false → add s p b ≡ Gives (added s p b)
ends s p b short within =
    let room : nat_le record_limit (length s.text) ≡ false = lt-leb record_limit (length s.text) short in
    rw (room, within) refl

-- ---- the bytes of a record

both_true : (a b : Bool) → (a && b) ≡ true → (a ≡ true) × (b ≡ true)
both_true true b h = (refl, h)
both_true false b h = cc

pub inside_of : (s : State) → (is_events s.position.level && is_nested s.position.part) ≡ true → Inside s
inside_of s h =
    let parts = both_true (is_events s.position.level) (is_nested s.position.part) h in
    record { level = parts.0; part = parts.1 }

some_bytes : (bytes : List ℕ) → bytes ≢ [] → 0 < length bytes
some_bytes [] some = absurd (some refl)
some_bytes (b ∷ bs) some = omega arith

fewer : (n : ℕ) (bytes : List ℕ) → 0 < n → 0 < length bytes → length (drop n bytes) < length bytes
fewer n bytes some any = omega (arith, length-drop n bytes)

read_left : (old : Uncut) (e : Extent) → Inside old.state → old.bytes ≢ [] → e ≡ scanned old.state.position old.bytes → length old.state.text + e.len ≤ record_limit
    → (more : List ℕ) → left old more ≡ after_those old.state e old.bytes more
read_left old e in_it some is short more =
    let fits : length old.state.text + (scanned old.state.position old.bytes).len ≤ record_limit = let same : e.len ≡ (scanned old.state.position old.bytes).len = ap (λ (x : Extent). x.len) is in omega arith in
    scan_cuts old.bytes more old.state in_it (some_bytes old.bytes some) fits ∙ ap (λ (x : Extent). after_those old.state x old.bytes more) (sym is)

pub reads_going : (old new : Uncut) (e : Extent) → Inside old.state → old.bytes ≢ [] → e ≡ scanned old.state.position old.bytes
    → length old.state.text + e.len ≤ record_limit → is_nested e.position.part ≡ true → new ≡ read_log old e → Reads old (Ok Going) new
reads_going old new e in_it some is short goes same = (
  record {
    left = λ more. read_left old e in_it some is short more ∙ rw goes refl ∙ ap (λ (u : Uncut). left u more) (sym same);
    refused = ap (λ (u : Uncut). u.refused) same;
  },
  let any = some_bytes old.bytes some in
      let len : e.len ≡ (scanned old.state.position old.bytes).len = ap (λ (x : Extent). x.len) is in
      let one = scanned_some old.bytes old.state.position any in
      let less = fewer e.len old.bytes (omega arith) any in
      let bytes : length new.bytes ≡ length (drop e.len old.bytes) = ap (λ (u : Uncut). length u.bytes) same in
      omega arith,
)

pub reads_found : (old new : Uncut) (e : Extent) → Inside old.state → old.bytes ≢ [] → e ≡ scanned old.state.position old.bytes
    → length old.state.text + e.len ≤ record_limit → is_nested e.position.part ≡ false → new ≡ read_log old e → Reads old (Ok Found) new
reads_found old new e in_it some is short ends same = record {
  left = λ more.
      read_left old e in_it some is short more ∙ rw ends refl
      ∙ ap (λ (u : Uncut). put (cut_of u.state) (left (without u) more)) (sym same);
  refused = ap (λ (u : Uncut). u.refused) same;
}

pub reads_long : (old new : Uncut) (fault : CutFault) (e : Extent) → Inside old.state → old.bytes ≢ [] → e ≡ scanned old.state.position old.bytes
    → record_limit < length old.state.text + e.len → fault ≡ cause.RecordTooLong old.state.begin → new ≡ failed old fault → Reads old (Err fault) new
reads_long old new fault e in_it some is long named same = record {
  why = λ known more.
      let len : e.len ≡ (scanned old.state.position old.bytes).len = ap (λ (x : Extent). x.len) is in
      long_cuts old.bytes more old.state in_it (omega arith) (some_bytes old.bytes some) ∙ ap (λ f. ([], Err f)) (sym named);
  now = ap (λ (u : Uncut). u.refused) same;
}

-- what a cutter shows that read as many bytes of a record
pub read_view : (v old : Uncut) (e : Extent) (n : ℕ) (text bytes : List ℕ) → v ≡ old → n ≡ min last (v.state.at + e.len)
    → text ≡ v.state.text ++ take e.len v.bytes → bytes ≡ drop e.len v.bytes
    → record v { state = record v.state { position = e.position; at = n; text = text }; bytes = bytes } ≡ read_log old e
read_view v old e n text bytes same at text_is are =
    ap (λ (bs : List ℕ). record v { state = record v.state { position = e.position; at = n; text = text }; bytes = bs }) are
    ∙ ap (λ (t : List ℕ). record v { state = record v.state { position = e.position; at = n; text = t }; bytes = drop e.len v.bytes }) text_is
    ∙ ap (λ (k : ℕ). record v { state = record v.state { position = e.position; at = k; text = v.state.text ++ take e.len v.bytes }; bytes = drop e.len v.bytes }) at
    ∙ ap (λ (u : Uncut). read_log u e) same

-- what a cutter shows whose skeleton has one more byte
pub kept_view : (v old : Uncut) (p : Position) (b w k : ℕ) (bytes : List ℕ) → v ≡ old → bytes ≡ v.state.skeleton ++ b ∷ []
    → w ≡ (if is_whole p.part then length v.state.skeleton + 1 else v.state.whole)
    → k ≡ (if is_open v.state.position.part then length v.state.skeleton else v.state.key)
    → passed v (moved_to (record v.state { skeleton = bytes; whole = w; key = k }) p) ≡ passed old (kept old.state p b)
kept_view v old p b w k bytes same are whole key =
    ap (λ (bs : List ℕ). passed v (moved_to (record v.state { skeleton = bs; whole = w; key = k }) p)) are
    ∙ ap (λ (n : ℕ). passed v (moved_to (record v.state { skeleton = v.state.skeleton ++ b ∷ []; whole = n; key = k }) p)) whole
    ∙ ap (λ (n : ℕ). passed v (moved_to (record v.state { skeleton = v.state.skeleton ++ b ∷ []; whole = if is_whole p.part then length v.state.skeleton + 1 else v.state.whole; key = n }) p)) key
    ∙ ap (λ (u : Uncut). passed u (kept u.state p b)) same

pub keeps_byte : (s : State) (p : Position) (b : ℕ) → length s.skeleton < skeleton_limit → keep s p b ≡ Goes (kept s p b)
keeps_byte s p b short =
    let room : nat_le skeleton_limit (length s.skeleton) ≡ false = lt-leb skeleton_limit (length s.skeleton) short in
    rw room refl
