-- Lines of keys.
use Rattle.std.proofs.Common.{◌≡◌, OnOk, Result, Ok, Err, ◌∙◌, ◌++◌, ◌||◌, Bool, true, false, List, [], ◌∷◌, Option, Some, None, append-nil, append_assoc, ap, ap₂, refl, sym, subst}
use Rattle.std.proofs.lemmas.Grind.{fold-append}
use Rattle.std.specs.List.{AllByRecursion}
use Rattle.std.specs.Option.{is_some}
use Rattle.qa_base.specs.declared.space.Space.{Space}
use Rattle.qa_base.specs.declared.space.Space.TheVariants.{Initial, Handshake, App}
use Rattle.qa_base.specs.values.Events.{is_space}
use Rattle.qa_base.specs.values.PerSpace.{of_space, with_space}
use Rattle.qa_convert.proofs.Stated.{decoding_then}
use Rattle.qa_convert.specs.KeyLines.{Discards, OnlyKeys, Retires, TellsKeys, came_by, come_of, gone_by, keys_after, keys_by, keys_in, retired_at}
use Rattle.qa_convert.specs.Rules.{Rules, rules_after}
use Rattle.qa_convert.specs.Telling.{AreRetired, HaveCome, KeysTold, KnownKeys, Retired, Sends, Told, gone_told, with_came, with_gone}
use Rattle.qa_convert.specs.declared.decoding.Decoding.{Decoding}
use Rattle.qa_convert.specs.declared.event.Said.{Said}
use Rattle.qa_convert.specs.declared.event.Said.TheVariants as said
use Rattle.qa_convert.specs.declared.groups.About.{About}
use Rattle.qa_convert.specs.declared.groups.About.TheVariants as about
use Rattle.qa_convert.specs.declared.groups.Group.{Group}
use Rattle.qa_convert.specs.declared.groups.PacketAt.{PacketAt}
use Rattle.qa_convert.specs.declared.place.Place.{Place}

-- ---- spaces

pub all_and : {X : Type 0} (P : X → Type 0) (xs ys : List X) → AllByRecursion P xs → AllByRecursion P ys → AllByRecursion P (xs ++ ys)
all_and P [] ys one two = two
all_and P (x ∷ xs) ys one two = (one.0, all_and P xs ys one.1 two)

pub no_gone : (t : Told) → t ≡ with_gone t []
no_gone t = ap (λ (all : List Space). record t { keys = record { came = t.keys.came; gone = all } }) (sym (append-nil t.keys.gone))

pub more_gone : (t : Told) (ss more : List Space) → with_gone (with_gone t ss) more ≡ with_gone t (ss ++ more)
more_gone t ss more = ap (λ (all : List Space). record t { keys = record { came = t.keys.came; gone = all } }) (append_assoc t.keys.gone ss more)

told_alone : (b : Bool) (s : Space) → AllByRecursion (λ t. t ≡ s) (gone_told b s)
told_alone true s = tt
told_alone false s = (refl, tt)

-- ---- one space

-- a guess tells nothing
pub nothing_gone : (place : Option Place) (s : Space) (a b : Told) → place ≡ None → Discards place s a b → b ≡ a
nothing_gone place s a b none gone = gone.told ∙ rw (gone.untold none) (sym (no_gone a))

-- ---- spaces of which the log told

are_retired : (retired : Retired) (s : Space) (ss : List Space) → is_some (of_space s retired) ≡ true → AllByRecursion (λ t. t ≡ s) ss → AreRetired retired ss
are_retired retired s [] is are = tt
are_retired retired s (t ∷ ss) is are = (rw are.0 is, are_retired retired s ss is are.1)

gone_of : (retired : Retired) (s : Space) (place known : Option Place) (ss : List Space) → known ≡ of_space s retired → place ≡ known → AllByRecursion (λ t. t ≡ s) ss → (place ≡ None → ss ≡ [])
    → AreRetired retired ss
gone_of retired s place None ss known is are untold = rw (untold is) tt
gone_of retired s place (Some p) ss known is are untold = are_retired retired s ss (rw (sym known) refl) are

pub retires_by : (retired : Retired) (s : Space) (place : Option Place) (a b : Told) → place ≡ of_space s retired → Discards place s a b → Retires retired a b
retires_by retired s place a b is gone = record {
  spaces = gone.spaces;
  gone = gone_of retired s place (of_space s retired) gone.spaces refl is gone.are gone.untold;
  told = gone.told;
}

pub retires_none : (retired : Retired) (a b : Told) → b ≡ a → Retires retired a b
retires_none retired a b same = record { spaces = []; gone = tt; told = same ∙ no_gone a }

pub retires_same : (retired : Retired) (a b c : Told) → Retires retired a b → c ≡ b → Retires retired a c
retires_same retired a b c one same = record { spaces = one.spaces; gone = one.gone; told = same ∙ one.told }

-- ---- keys of which the log told

pub no_keys_told : (t : Told) → t ≡ with_gone (with_came t []) []
no_keys_told t = ap₂ (λ (came gone : List Space). record t { keys = record { came = came; gone = gone } }) (sym (append-nil t.keys.came)) (sym (append-nil t.keys.gone))

pub only_none : (known : KnownKeys) (a b : Told) → b ≡ a → OnlyKeys known a b
only_none known a b same = record { came = []; have_come = tt; gone = []; are_retired = tt; told = same ∙ no_keys_told a }

pub only_retires : (known : KnownKeys) (a b : Told) → Retires known.retired a b → OnlyKeys known a b
only_retires known a b one = record {
  came = [];
  have_come = tt;
  gone = one.spaces;
  are_retired = one.gone;
  told = one.told ∙ ap (λ (came : List Space). record a { keys = record { came = came; gone = a.keys.gone ++ one.spaces } }) (sym (append-nil a.keys.came));
}

pub only_tell : (known : KnownKeys) (a b : Told) → OnlyKeys known a b → TellsKeys known a b
only_tell known a b one = (
  one.came,
  one.gone,
  ap (λ (t : Told). t.keys.came) one.told,
  one.have_come,
  ap (λ (t : Told). t.keys.gone) one.told,
  one.are_retired,
)

-- between lines that tell nothing of keys
pub tell_between : (known : KnownKeys) (a b c d : Told) → b.keys ≡ a.keys → TellsKeys known b c → d.keys ≡ c.keys → TellsKeys known a d
tell_between known a b c d before tells after = (
  tells.0,
  tells.1,
  ap (λ (k : KeysTold). k.came) after ∙ tells.2 ∙ ap (λ (k : KeysTold). k.came ++ tells.0) before,
  tells.3,
  ap (λ (k : KeysTold). k.gone) after ∙ tells.4 ∙ ap (λ (k : KeysTold). k.gone ++ tells.1) before,
  tells.5,
)

pub tells_no_keys : (known : KnownKeys) (a b : Told) → b.keys ≡ a.keys → TellsKeys known a b
tells_no_keys known a b same = (
  [],
  [],
  ap (λ (k : KeysTold). k.came) same ∙ sym (append-nil a.keys.came),
  tt,
  ap (λ (k : KeysTold). k.gone) same ∙ sym (append-nil a.keys.gone),
  tt,
)

pub ok_retires : {T E : Type 0} (r : Result T E) (known : KnownKeys) (retired : Retired) (a b : Told) → OnOk r (Retires retired a b) → OnOk r (retired ≡ known.retired) → OnOk r (OnlyKeys known a b)
ok_retires (Ok x) known retired a b retires same = only_retires known a b (subst (λ (one : Retired). Retires one a b) same retires)
ok_retires (Err e) known retired a b retires same = tt

pub sends_tell : (s g : Bool) (known : KnownKeys) (ps : List PacketAt) (a b : Told) → Sends s g known.retired ps a b → TellsKeys known a b
sends_tell s g known ps a b sends = (
  [],
  sends.spaces,
  ap (λ (t : Told). t.keys.came) sends.told ∙ sym (append-nil a.keys.came),
  tt,
  ap (λ (t : Told). t.keys.gone) sends.told,
  sends.gone,
)

-- ---- what the log told stays told

-- an event that does not tell of keys
pub other_keys : (s : Said) → ((x : Option Space) → s ≡ said.KeysCame x → ⊥) → ((x : Option Space) → s ≡ said.KeysGone x → ⊥) → (place : Place) (known : KnownKeys) → keys_by place s known ≡ known
other_keys (said.Sent p) came gone place known = refl
other_keys said.OtherSent came gone place known = refl
other_keys (said.Received p) came gone place known = refl
other_keys (said.OtherReceived closes) came gone place known = refl
other_keys (said.Lost l) came gone place known = refl
other_keys said.OtherLost came gone place known = refl
other_keys (said.Report r) came gone place known = refl
other_keys said.UnreadReport came gone place known = refl
other_keys (said.State limited) came gone place known = refl
other_keys said.TimerSet came gone place known = refl
other_keys (said.Expired e) came gone place known = refl
other_keys (said.KeysCame x) came gone place known = absurd (came x refl)
other_keys (said.KeysGone x) came gone place known = absurd (gone x refl)
other_keys (said.OfPeer p) came gone place known = refl
other_keys said.OwnParameters came gone place known = refl
other_keys (said.Recovery p) came gone place known = refl

or_still : (a b : Bool) → b ≡ true → (a || b) ≡ true
or_still true b is = refl
or_still false b is = is

come_in : (what : About) (known : KnownKeys) → known.came ≡ true → (keys_in what known).came ≡ true
come_in (about.Sent ps) known is = is
come_in (about.Received p ls) known is = or_still (is_space Handshake p.packet.space) known.came is
come_in (about.Lost ls) known is = is
come_in (about.Expired at e) known is = is
come_in (about.Other e) known is = or_still (come_of (came_by e.said)) known.came is

come_after : (gs : List Group) (known : KnownKeys) → known.came ≡ true → (keys_after gs known).came ≡ true
come_after [] known is = is
come_after (g ∷ gs) known is = come_after gs (keys_in g.about known) (come_in g.about known is)

come_all : (gs : List Group) (known : KnownKeys) (ss : List Space) → HaveCome known ss → HaveCome (keys_after gs known) ss
come_all gs known [] are = tt
come_all gs known (s ∷ ss) are = (come_after gs known are.0, come_all gs known ss are.1)

still_space : (s t : Space) (place : Place) (retired : Retired) → is_some (of_space s retired) ≡ true → is_some (of_space s (with_space t retired (Some place))) ≡ true
still_space Initial Initial place retired is = refl
still_space Initial Handshake place retired is = is
still_space Initial App place retired is = is
still_space Handshake Initial place retired is = is
still_space Handshake Handshake place retired is = refl
still_space Handshake App place retired is = is
still_space App Initial place retired is = is
still_space App Handshake place retired is = is
still_space App App place retired is = refl

still_at : (s : Space) (place : Place) (space : Option Space) (retired : Retired) → is_some (of_space s retired) ≡ true → is_some (of_space s (retired_at place space retired)) ≡ true
still_at s place None retired is = is
still_at s place (Some t) retired is = still_space s t place retired is

still_in : (s : Space) (what : About) (known : KnownKeys) → is_some (of_space s known.retired) ≡ true → is_some (of_space s (keys_in what known).retired) ≡ true
still_in s (about.Sent ps) known is = is
still_in s (about.Received p ls) known is = is
still_in s (about.Lost ls) known is = is
still_in s (about.Expired at e) known is = is
still_in s (about.Other e) known is = still_at s e.at.place (gone_by e.said) known.retired is

still_after : (s : Space) (gs : List Group) (known : KnownKeys) → is_some (of_space s known.retired) ≡ true → is_some (of_space s (keys_after gs known).retired) ≡ true
still_after s [] known is = is
still_after s (g ∷ gs) known is = still_after s gs (keys_in g.about known) (still_in s g.about known is)

still_all : (gs : List Group) (known : KnownKeys) (ss : List Space) → AreRetired known.retired ss → AreRetired (keys_after gs known).retired ss
still_all gs known [] are = tt
still_all gs known (s ∷ ss) are = (still_after s gs known are.0, still_all gs known ss are.1)

keys_then : (gs hs : List Group) (known : KnownKeys) → keys_after (gs ++ hs) known ≡ keys_after hs (keys_after gs known)
keys_then gs hs known = fold-append (λ (before : KnownKeys) (g : Group). keys_in g.about before) known gs hs

pub both_keys : (gs hs : List Group) (known : KnownKeys) (a b c : Told) → TellsKeys (keys_after gs known) a b → TellsKeys (keys_after hs (keys_after gs known)) b c
    → TellsKeys (keys_after (gs ++ hs) known) a c
both_keys gs hs known a b c one two =
    let mid = keys_after gs known in
    let end = keys_after hs mid in
    rw (keys_then gs hs known) (
      one.0 ++ two.0,
      one.1 ++ two.1,
      two.2 ∙ ap (λ xs. xs ++ two.0) one.2 ∙ append_assoc a.keys.came one.0 two.0,
      all_and (λ s. end.came ≡ true) one.0 two.0 (come_all hs mid one.0 one.3) two.3,
      two.4 ∙ ap (λ xs. xs ++ two.1) one.4 ∙ append_assoc a.keys.gone one.1 two.1,
      all_and (λ s. is_some (of_space s end.retired) ≡ true) one.1 two.1 (still_all hs mid one.1 one.5) two.5,
    )

pub rules_then : (gs hs : List Group) (r : Rules) → rules_after (gs ++ hs) r ≡ rules_after hs (rules_after gs r)
rules_then gs hs r = ap₂ (λ (d : Decoding) (known : KnownKeys). record r { decoding = d; keys = known }) (decoding_then gs hs r.decoding) (keys_then gs hs r.keys)
