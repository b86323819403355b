use Rattle.std.proofs.Common.{◌≡◌, [], ◌∷◌, List, length, refl, sym, ◌∙◌, append-nil, rules, subst}
use Rattle.std.specs.Vec.Iter.{into_iter_items}
use Rattle.qa_convert.specs.Sending.{AreOf}
use Rattle.qa_convert.specs.Telling.{sized}
use Rattle.qa_convert.specs.declared.groups.PacketAt.{PacketAt}
use Rattle.qa_convert.specs.declared.sending.Outgoing.{Outgoing}
use Rattle.qa_convert.proofs.sending.with_sizes.Goals as goal

nothing_left : (ps : List PacketAt) → length ps ≡ 0 → ps ≡ []
nothing_left [] e = refl
nothing_left (p ∷ ps) e = absurd (search rules)

pub returns : goal.returns
returns c s g =
    let none : into_iter_items c.loop-it.it-iterator ≡ [] =
    nothing_left (into_iter_items c.loop-it.it-iterator) (sym c.loop-it.it-iterator.rest.ok.0 ∙ c.in-None.ensures.steps.0) in
    let done : AreOf s g (sized (into_iter_items c.loop-it.it-iterator)) [] = rw none refl in
    subst (λ (os : List Outgoing). AreOf s g (sized c.args.packets.items) os) (append-nil c.loop-it.found.items) (c.loop-it.invariant.all s g [] done)
