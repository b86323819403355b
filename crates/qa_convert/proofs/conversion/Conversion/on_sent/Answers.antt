use Rattle.std.proofs.Common.{◌≡◌, ◌≤◌, ◌∙◌, [], ◌∷◌, List, length, refl, sym, ap, subst, arith}
use Rattle.std.proofs.lemmas.Result.{on_ok_weaker}
use Rattle.qa_convert.proofs.Sent.{lines_are, none_sent}
use Rattle.qa_convert.specs.Rules.{Rules, rules_of, rules_stated}
use Rattle.qa_convert.specs.Sending.{AreOf, Wrote}
use Rattle.qa_convert.specs.Telling.{KnownKeys, sized, told_in, with_gone, with_sent}
use Rattle.qa_convert.specs.declared.conversion.Conversion.{Conversion}
use Rattle.qa_convert.specs.declared.sending.Outgoing.{Outgoing}
use Rattle.qa_convert.proofs.conversion.Conversion.on_sent.Goals as goal
use Rattle.qa_convert.proofs.conversion.Conversion.on_sent.Goals.{then-is_some+then-settles+in_ok-settle_sizes, else-is_some}
use Rattle.qa_convert.proofs.conversion.Conversion.on_sent.Goals.{then-awaits_discard+in_ok-settle, else-awaits_discard}

empty_of : (os : List Outgoing) → length os ≤ 0 → os ≡ []
empty_of [] few = refl
empty_of (o ∷ os) few = absurd (omega arith)

pub returns-in_default-clause-sends : goal.returns-in_default-clause-sends
returns-in_default-clause-sends c =
    let s = c.args.self.now.known.settles_sizes in
    let g = c.args.self.now.terms.dialect.sizes_by_growth in
    let item = c.in_default.ensures.item in
    let few : length c.deref.result.now ≤ 0 = omega arith in
    let none : c.in_ok-packets.packets.items ≡ [] = sym c.deref.ensures.value ∙ empty_of c.deref.result.now few in
    record {
      lines = [];
      are = lines_are s g (sized c.args.packets.items) [] [] (subst (λ (os : List Outgoing). AreOf s g (sized c.args.packets.items) os) none (c.in_ok-packets.ensures s g)) refl;
      spaces = [];
      gone = tt;
      told = ap told_in c.take_beside.ensures.writing ∙ none_sent (told_in c.args.self.now.writing);
    }

pub returns-clause-sends : goal.returns-clause-sends
returns-clause-sends c =
    let s = c.args.self.now.known.settles_sizes in
    let g = c.args.self.now.terms.dialect.sizes_by_growth in
    let ps = sized c.args.packets.items in
    let start = c.in_ok-packets.ensures s g in
    let are : AreOf s g ps c.if-is_some.packets.items =
    elim c.if-is_some.branch [
      | then-is_some+then-settles+in_ok-settle_sizes w ↦
          rw (w.packets-is, w.if-settles.true) (w.in_ok-settle_sizes.ensures.are ps (rw w.if-settles.true at start))
      | else-is_some w ↦ rw w.packets-is start
    ] in
    let taken : told_in c.take_beside-is_reported.new.self.writing ≡ told_in c.args.self.now.writing =
    ap told_in c.take_beside-is_reported.ensures.writing ∙ c.in_ok-guess_probes.ensures.told in
    let settled : told_in c.if-is_some.self.writing ≡ told_in c.args.self.now.writing =
    elim c.if-is_some.branch [
      | then-is_some+then-settles+in_ok-settle_sizes w ↦ ap (λ (x : Conversion). told_in x.writing) w.self-is ∙ w.in_ok-settle_sizes.ensures.told ∙ taken
      | else-is_some w ↦ ap (λ (x : Conversion). told_in x.writing) w.self-is ∙ taken
    ] in
    let told : told_in c.if-awaits_discard.self.writing ≡ told_in c.args.self.now.writing =
    elim c.if-awaits_discard.branch [
      | then-awaits_discard+in_ok-settle w ↦ ap (λ (x : Conversion). told_in x.writing) w.self-is ∙ w.in_ok-settle.ensures.told ∙ settled
      | else-awaits_discard w ↦ ap (λ (x : Conversion). told_in x.writing) w.self-is ∙ settled
    ] in
    let stated = rules_stated c.args.beside.now (rules_of c.args.self.now) in
    let begun : rules_of c.take_beside-is_reported.new.self ≡ stated =
    c.take_beside-is_reported.ensures.rules ∙ ap (rules_stated c.args.beside.now) c.in_ok-guess_probes.ensures.rules in
    let grown : rules_of c.if-is_some.self ≡ stated =
    elim c.if-is_some.branch [
      | then-is_some+then-settles+in_ok-settle_sizes w ↦ ap rules_of w.self-is ∙ w.in_ok-settle_sizes.ensures.rules ∙ begun
      | else-is_some w ↦ ap rules_of w.self-is ∙ begun
    ] in
    let same : c.if-awaits_discard.self.keys.retired ≡ c.args.self.now.keys.retired =
    elim c.if-awaits_discard.branch [
      | then-awaits_discard+in_ok-settle w ↦ ap (λ (x : Conversion). x.keys.retired) w.self-is ∙ ap (λ (k : KnownKeys). k.retired) w.in_ok-settle.ensures.known ∙ ap (λ (r : Rules). r.keys.retired) grown
      | else-awaits_discard w ↦ ap (λ (x : Conversion). x.keys.retired) w.self-is ∙ ap (λ (r : Rules). r.keys.retired) grown
    ] in
    on_ok_weaker c.send_all.result
    (λ wrote.
    let all : Wrote c.args.self.now.keys.retired c.if-is_some.packets.items (told_in c.if-awaits_discard.self.writing) (told_in c.send_all.new.self.writing) =
    subst (λ (os : List Outgoing). Wrote c.args.self.now.keys.retired os (told_in c.if-awaits_discard.self.writing) (told_in c.send_all.new.self.writing)) c.deref-3.ensures.value
    (rw same at wrote) in
    record {
      lines = all.lines;
      are = lines_are s g ps c.if-is_some.packets.items all.lines are all.are;
      spaces = all.spaces;
      gone = all.gone;
      told = all.told ∙ ap (λ t. with_gone (with_sent t all.lines) all.spaces) told;
    })
    c.send_all.ensures.wrote
