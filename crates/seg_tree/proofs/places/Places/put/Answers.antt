use Rattle.std.proofs.Common.{◌≡◌, ◌<◌, ◌-◌, ◌^◌, false, length, arith, ap, length-set}
use Rattle.seg_tree.specs.Held.{Room}
use Rattle.seg_tree.specs.Linked.{used}
use Rattle.seg_tree.specs.declared.places.Slot.TheVariants.{Used}
use Rattle.seg_tree.proofs.SlotLaws.{put_at, pushed, used-and_vacant}
use Rattle.seg_tree.proofs.places.Places.put.Goals as goal

pub push_reserved-requires : goal.push_reserved-requires
push_reserved-requires c =
    let p = pushed c.self.inside.slots.items c.self.inside.last c.self.inside.vacancies c.args.node c.self.invariant c.in-None.is in
    let spare = ap (λ (r : Room). r.spare) c.self.view_is in
    omega (arith, p.none, c.self.invariant.counted, spare, c.requires.spare, c.self.inside.slots.ok)

pub invariant_of-self : goal.invariant_of-self
invariant_of-self c =
    let p = pushed c.self.inside.slots.items c.self.inside.last c.self.inside.vacancies c.args.node c.self.invariant c.in-None.is in
    let nodes = ap (λ (r : Room). used r.nodes) c.self.view_is in
    let room : length c.self.inside.slots.items < 2 ^ 24 = omega (arith, p.none, used-and_vacant c.self.inside.slots.items, nodes, c.requires.few) in
    let count : c.self.inside.vacancies ≡ 0 = omega (arith, p.none, c.self.invariant.counted) in
    rw (c.push_reserved.ensures.items, c.in-None.is, count) (p.kept room)

pub before-self-inside-requires-clause-within : goal.before-self-inside-requires-clause-within
before-self-inside-requires-clause-within c =
    rw c.deref.ensures.value (put_at c.self.inside.slots.items c.self.inside.last c.self.inside.vacancies c.in-Some.place c.args.node c.self.invariant c.in-Some.is).within

pub before-self-inside-requires-clause-vacant : goal.before-self-inside-requires-clause-vacant
before-self-inside-requires-clause-vacant c =
    rw c.deref.ensures.value (put_at c.self.inside.slots.items c.self.inside.last c.self.inside.vacancies c.in-Some.place c.args.node c.self.invariant c.in-Some.is).vacant

pub overflow_sub-self : goal.overflow_sub-self
overflow_sub-self c =
    let p = put_at c.self.inside.slots.items c.self.inside.last c.self.inside.vacancies c.in-Some.place c.args.node c.self.invariant c.in-Some.is in
    omega (arith, p.some, c.self.invariant.counted)

pub index_mut-requires : goal.index_mut-requires
index_mut-requires c =
    let p = put_at c.self.inside.slots.items c.self.inside.last c.self.inside.vacancies c.in-Some.place c.args.node c.self.invariant c.in-Some.is in
    omega (arith, p.within, c.self.inside.slots.ok)

pub invariant_of-self-in-Some : goal.invariant_of-self-in-Some
invariant_of-self-in-Some c =
    let p = put_at c.self.inside.slots.items c.self.inside.last c.self.inside.vacancies c.in-Some.place c.args.node c.self.invariant c.in-Some.is in
    rw (c.before-self-inside.ensures, c.deref.ensures.value) (p.kept (c.self.inside.vacancies - 1) (omega (arith, p.some, c.self.invariant.counted)))

pub returns-in-None-clause-put : goal.returns-in-None-clause-put
returns-in-None-clause-put c =
    let p = pushed c.self.inside.slots.items c.self.inside.last c.self.inside.vacancies c.args.node c.self.invariant c.in-None.is in
    let nodes = ap (λ (r : Room). r.nodes) c.self.view_is in
    let place : c.len-place.result ≡ length c.self.inside.slots.items = omega (arith, c.len-place.ensures, c.self.inside.slots.ok) in
    rw (← nodes, c.push_reserved.ensures.items, place) p.put

pub returns-in-Some-clause-put : goal.returns-in-Some-clause-put
returns-in-Some-clause-put c =
    let p = put_at c.self.inside.slots.items c.self.inside.last c.self.inside.vacancies c.in-Some.place c.args.node c.self.invariant c.in-Some.is in
    let nodes = ap (λ (r : Room). r.nodes) c.self.view_is in
    rw (← nodes) p.put

pub returns-in-Some-clause-spare : goal.returns-in-Some-clause-spare
returns-in-Some-clause-spare c =
    let p = put_at c.self.inside.slots.items c.self.inside.last c.self.inside.vacancies c.in-Some.place c.args.node c.self.invariant c.in-Some.is in
    let spare = ap (λ (r : Room). r.spare) c.self.view_is in
    omega (arith, p.some, c.self.invariant.counted, spare, length-set c.self.inside.slots.items c.in-Some.place (Used c.args.node false))
