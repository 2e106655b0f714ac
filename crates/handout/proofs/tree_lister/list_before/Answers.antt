-- `handout::tree_lister::list_before` meets its contract: context by context from the start down. Assumes nothing.
use Rattle.std.proofs.Common.{◌≡◌, ◌<◌, ◌+◌, ◌-◌, ◌∷◌, length, drop, arith, refl}
use Rattle.std.proofs.lemmas.List.{drop_all, length_push}
use Rattle.std.proofs.lemmas.Iterator.Adapters.{YieldsList-from_rev_slice}
use Rattle.std.proofs.lemmas.Iterator.Consumers.{YieldsList-turn}
use Rattle.handout.proofs.PathSteps.{before_begins, front_at, before_goes_on, seen_back}
use Rattle.handout.proofs.tree_lister.list_before.Goals as goal
use Rattle.handout.proofs.tree_lister.list_before.Goals.{In-Some}

-- the nonterminal that comes next from the end of the way on
here : (c : In-Some) →
    (length c.args.way.now - (length c.loop-a.yielded + 1) < length c.args.way.now) ×
    (drop (length c.args.way.now - (length c.loop-a.yielded + 1)) c.args.way.now ≡
    c.in-Some.field-0.now ∷ drop (length c.args.way.now - length c.loop-a.yielded) c.args.way.now)
here c =
    let turn =
    YieldsList-turn (YieldsList-from_rev_slice c.args.way.now cc) c.loop-a.yielded _ c.loop-a.yielded_by _ _ c.in-Some.field-0
    c.in-Some.is c.next.ensures.steps in
    seen_back c.args.way.now (length c.loop-a.yielded) c.in-Some.field-0.now turn.0 turn.1

pub loop-a-init : goal.loop-a-init
loop-a-init c =
    let none = drop_all (length c.args.way.now - 0) c.args.way.now (omega arith) in
    ((refl, refl), rw none (before_begins c.args.tabled.now _))

pub list_front-requires-clause-inner : goal.list_front-requires-clause-inner
list_front-requires-clause-inner c =
    let at = here (goal.at.list_front-requires-clause-inner c).In-Some in
    (front_at c.args.tabled.now c.loop-a.invariant.1 _ at.0 at.1 c.requires).0

pub list_front-requires-clause-few : goal.list_front-requires-clause-few
list_front-requires-clause-few c =
    let at = here (goal.at.list_front-requires-clause-few c).In-Some in
    (front_at c.args.tabled.now c.loop-a.invariant.1 _ at.0 at.1 c.requires).1

pub loop-a-preserved : goal.loop-a-preserved
loop-a-preserved c =
    let at = here (goal.at.loop-a-preserved c).In-Some in
    let same = c.list_front.ensures.same in
    let more = length_push c.loop-a.yielded c.in-Some.field-0 in (
      (cc, cc),
      rw (more, at.1) (before_goes_on c.args.tabled.now c.loop-a.invariant.1 c.list_front.ensures.listed),
    )
