-- Which trace of a log is meant, by the endpoints of which its traces are.
use Rattle.std.specs.Prelude.{◌≡◌, ◌++◌, ◌-◌, ◌&&◌, ℕ, Bool, true, false, List, [], ◌∷◌, length}
use Rattle.std.specs.Prelude.{map, nat_le, nat_lt, slice_get, Option, Some, None, unwrap_or}
use Rattle.std.specs.Prelude.{Result, Ok, Err, if◌then◌else◌}
use Rattle.json.specs.Find.{InItems}
use Rattle.json.specs.Json.{Items, Json}
use Rattle.json.specs.Token.{Token}
use Rattle.qa_base.specs.declared.space.Role.{Role}
use Rattle.qa_base.specs.declared.space.Role.TheVariants.{Client, Server}
use Rattle.qa_qlog.specs.Documents.{traces}
use Rattle.qa_qlog.specs.Frames.{listed}
use Rattle.qa_qlog.specs.Heads.{head_in}
use Rattle.qa_qlog.specs.Kinds.{json_of}
use Rattle.qa_qlog.specs.Outer.{next}
use Rattle.qa_qlog.specs.declared.heads.Head.{Head}
use Rattle.qa_qlog.specs.declared.heads.NoHead.{NoHead}
use Rattle.qa_qlog.specs.declared.keys.NoValue.{NoValue}
use Rattle.qa_logs.specs.Heads.{IsHead}
use Rattle.qa_logs.specs.declared.choosing.Chosen.{Chosen}
use Rattle.qa_logs.specs.declared.choosing.Fit.{Fit}
use Rattle.qa_logs.specs.declared.choosing.Request.{Request}
use Rattle.qa_logs.specs.declared.cutting.Form.{Form}
use Rattle.qa_logs.specs.declared.cutting.Form.TheVariants as form
use Rattle.qa_logs.specs.declared.log.Log.{Log}

-- ---- the endpoints of its traces

-- a head that cannot be read does not say it
abbrev pub role_by : Result Head NoHead → Option Role
role_by (Ok head) = head.role
role_by (Err fault) = None

abbrev pub role_of : Json → Json → Option Role
role_of document trace = role_by (head_in document (Some trace))

abbrev pub or_none : Result (List Json) NoValue → List Json
or_none (Ok traces) = traces
or_none (Err fault) = []

abbrev pub roles_in : Json → List (Option Role)
roles_in document = map (role_of document) (or_none (traces document))

abbrev pub HasRoles : Option Json → List (Option Role) → Type 0
HasRoles None roles = ⊥
HasRoles (Some document) roles = roles ≡ roles_in document

-- the endpoints of which the traces of a log are, as far as they say it: many texts are one trace
abbrev pub AreRolesBy : Form → Log → List (Option Role) → Type 0
AreRolesBy (form.Texts mark) log roles =
    (head : Head) × IsHead log 1 head × (roles ≡ head.role ∷ [])
AreRolesBy form.Document log roles = HasRoles (json_of log.head.items) roles

abbrev pub AreRoles : Log → List (Option Role) → Type 0
AreRoles log roles = AreRolesBy log.form log roles

-- a list that is returned has these items
abbrev pub HasTraces : Option (List Token) → List Json → Type 0
HasTraces None js = js ≡ []
HasTraces (Some found) js = (is : Items) × (js ≡ listed is) × InItems found is

-- ---- the traces that could be meant

abbrev pub if_same : Role → Role → Option Role
if_same Client Client = Some Client
if_same Client Server = None
if_same Server Client = None
if_same Server Server = Some Server

-- of which endpoint a trace is, if it could be meant: one that is asked for, or any
abbrev pub of_role : Option Role → Option Role → Option Role
of_role None asked = None
of_role (Some role) None = Some role
of_role (Some role) (Some asked) = if_same role asked

abbrev pub fit : ℕ → Option Role → List Fit
fit number None = []
fit number (Some role) = record { trace = number; role = role } ∷ []

-- those that say it, the first of which has this number
abbrev pub saying : ℕ → Option Role → List (Option Role) → List Fit
saying number asked [] = []
saying number asked (role ∷ roles) =
    fit number (of_role role asked) ++ saying (next number) asked roles

-- the number of the first that does not say of which endpoint it is
abbrev pub first_unsaid : ℕ → List (Option Role) → Option ℕ
first_unsaid number [] = None
first_unsaid number (None ∷ roles) = Some number
first_unsaid number (Some role ∷ roles) = first_unsaid (next number) roles

abbrev pub unsaid : Option Role → Option ℕ → List Fit
unsaid (Some asked) (Some number) = record { trace = number; role = asked } ∷ []
unsaid (Some asked) None = []
unsaid None number = []

abbrev pub or_else : List Fit → List Fit → List Fit
or_else [] others = others
or_else (f ∷ fs) others = f ∷ fs

-- those of the endpoint that is asked for, or of any; if there are none, the first that does not
-- say of which it is
abbrev pub fitting : Option Role → List (Option Role) → List Fit
fitting asked roles = or_else (saying 1 asked roles) (unsaid asked (first_unsaid 1 roles))

-- ---- which of them

abbrev pub if_within : ℕ → ℕ → Option ℕ
if_within count number = if nat_le 1 number && nat_le number count then Some number else None

-- the number that is asked for, or 1, if there are so many
abbrev pub numbered : ℕ → Option ℕ → Option ℕ
numbered count asked = if_within count (unwrap_or asked 1)

-- the number of a trace and of one of its connections: of a log with one trace that could be meant,
-- the number that is asked for is that of a connection
abbrev pub IsCounted : Bool → ℕ → Option ℕ → ℕ → ℕ → Type 0
IsCounted true count asked number connection =
    (number ≡ 1) × (connection ≡ unwrap_or asked 1)
IsCounted false count asked number connection =
    (numbered count asked ≡ Some number) × (connection ≡ 1)

pub record IsChosen (roles : List (Option Role)) (request : Request) (it : Chosen)
    : Type 0 where
  pub count : it.count ≡ length (fitting request.vantage roles)
  pub counted : IsCounted (nat_lt it.count 2) it.count request.connection it.number it.connection
  pub fit : slice_get (fitting request.vantage roles) (it.number - 1)
      ≡ Some (record { trace = it.trace; role = it.role })
