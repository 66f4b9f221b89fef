use Rattle.std.proofs.Common.{◌≡◌, arith}
use Rattle.spv_layout.proofs.Globals.{none_before, function_next, places_length}
use Rattle.spv_layout.proofs.plan.Plan.before_functions.Goals as goal

pub overflow_cast-count : goal.overflow_cast-count
overflow_cast-count c =
    let p = c.self.inside in
    let l = places_length p.functions p.definitions p.early.items p.late.items in
    let f = rw (← c.self.view_is) at c.requires.few in
    omega arith

pub returns-clause-within : goal.returns-clause-within
returns-clause-within c =
    let p = c.self.inside in
    let l = places_length p.functions p.definitions p.early.items p.late.items in
    rw (← c.self.view_is) (omega arith)

pub returns-clause-before : goal.returns-clause-before
returns-clause-before c = λ is n w h a.
    let p = c.self.inside in
    none_before is p.functions p.definitions p.early.items p.late.items n c.self.invariant (rw (← c.self.view_is) at w) (omega arith) (omega arith) a

pub returns-clause-next : goal.returns-clause-next
returns-clause-next c = λ is w h.
    let p = c.self.inside in
    let l = places_length p.functions p.definitions p.early.items p.late.items in
    let w' = rw (← c.self.view_is) at w in
    let h' = rw (← c.self.view_is) at h in
    let e : p.functions ≡ c.min.result = omega arith in
    rw e at (function_next is p.functions p.definitions p.early.items p.late.items c.self.invariant w' (omega arith))
