-- What is kept of warnings while a trace is judged.
use Rattle.std.specs.Prelude.{◌≡◌, ℕ, Bool, true, false, length, map, filter_map, string_bytes}
use Rattle.std.specs.Prelude.{List, Option, Some, None}
use Rattle.std.specs.List.{flat_map, list_any}
use Rattle.qa_format.specs.format.Reading.{reading}
use Rattle.qa_format.specs.verdicts.Verdict.{header_in}
use Rattle.qa_why_command.specs.warnings.Found.{Concern, Found, HeaderKey, LargePacket, MetricsKey}
use Rattle.qa_why_command.specs.warnings.Found.{found}
use Rattle.qa_why_command.specs.warnings.Texts.{warning_text}
use Rattle.qa_why_command.specs.warnings.Warnings.{told}
use Rattle.qa_why_command.specs.declared.warnings.told.Told.{Told}
use Rattle.qa_why_command.specs.declared.warnings.warnings.Warnings.{Warnings}

-- the key, of a warning of one in metrics lines
abbrev pub metrics_key : Concern → Option (List ℕ)
metrics_key (HeaderKey v k) = None
metrics_key (MetricsKey v k) = Some k
metrics_key (LargePacket e size most) = None

-- it is a warning of a packet
abbrev pub is_packet : Concern → Bool
is_packet (HeaderKey v k) = false
is_packet (MetricsKey v k) = false
is_packet (LargePacket e size most) = true

-- this is the text of these warnings, how many they are, their keys of metrics lines, and whether
-- one is of a packet
abbrev pub AreOf : List ℕ → List ℕ → ℕ → List (List ℕ) → Bool → List Found → Type 0
AreOf name text count keys has_packet fs =
    (text ≡ flat_map (warning_text name) fs) × (count ≡ length fs)
    × (keys ≡ filter_map (λ f. metrics_key f.concern) fs)
    × (has_packet ≡ list_any (λ f. is_packet f.concern) fs)

abbrev pub IsOf : List ℕ → Told → List Found → Type 0
IsOf name t fs = AreOf name t.text.items t.count (map string_bytes t.keys.items) t.has_packet fs

-- of what was found this was told
abbrev pub Tells : List ℕ → Told → List Found → Type 0
Tells name t fs = IsOf name t (told fs)

-- what was found on these lines was told, and this is their header
abbrev pub Covers : List ℕ → Warnings → List (List ℕ) → Type 0
Covers name w ls = Tells name w.told (found ls) × (w.header ≡ header_in reading ls)
