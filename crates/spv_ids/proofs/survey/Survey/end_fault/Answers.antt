use Rattle.std.proofs.Common.{◌≡◌, ◌∙◌, ◌<◌, sym, length, map, arith, get_or}
use Rattle.std.proofs.lemmas.List.{length-map}
use Rattle.spv_module.specs.Module.{plain_inst, plain_operand}
use Rattle.spv_ids.specs.inner.Survey.{insts_of}
use Rattle.spv_module.specs.declared.fault.Rule.TheVariants.{D1}
use Rattle.spv_ids.specs.inner.Uses.{AreSeen, AreBehind}
use Rattle.spv_ids.specs.inner.Faulty.{IsFaulty}
use Rattle.spv_ids.proofs.Bools.{false_true, match_true, match_false}
use Rattle.spv_ids.proofs.Defining.{inst_at, defined_here, defined_result, defined_within}
use Rattle.spv_ids.proofs.Leasts.{has_moved}
use Rattle.spv_ids.proofs.Broke.{least_end, least_again, again_end, result_same}
use Rattle.spv_ids.proofs.survey.Survey.end_fault.Goals as goal

pub unreachable-requires : goal.unreachable-requires
unreachable-requires c =
    let s = c.args.self.now in
    let is = insts_of s in
    let b = c.requires.bad in
    let w = defined_within is b.id s.end b.there in
    let m = length-map s.insts.now plain_inst in
    let l : s.end < length s.insts.now = omega arith in
    let i = plain_inst (get_or s.insts.now s.end c.index-self-self.result) in
    let t = inst_at s.insts.now s.end c.index-self-self.result l in
    let q = defined_result is s.end b.id i c.result_of.result t
    (c.result_of.ensures ∙ sym (c.requires.survey.places.early.result s.end i t)) b.there in
    let e = c.in_default.is in
    cc

pub returns-then-is_out_of_range-clause-broken : goal.returns-then-is_out_of_range-clause-broken
returns-then-is_out_of_range-clause-broken c =
    let s = c.args.self.now in
    let is = insts_of s in
    let b = c.requires.bad in
    let w = defined_within is b.id s.end b.there in
    let m = length-map s.insts.now plain_inst in
    let l : s.end < length s.insts.now = omega arith in
    let i = plain_inst (get_or s.insts.now s.end c.index-self-self.result) in
    let t = inst_at s.insts.now s.end c.index-self-self.result l in
    IsFaulty.result_out_of_range c.in-Some.id
    (defined_here is s.end c.in-Some.id i t
    (sym c.in-Some.is ∙ c.result_of.ensures ∙ sym (c.requires.survey.places.early.result s.end i t)))
    (c.is_out_of_range.ensures.0 c.if-is_out_of_range.true)

pub returns-then-is_out_of_range-clause-least : goal.returns-then-is_out_of_range-clause-least
returns-then-is_out_of_range-clause-least c =
    λ q f. least_end c.args.self.now.bound (insts_of c.args.self.now) c.args.self.now.end q f

pub returns-then-has_out_of_range-clause-broken : goal.returns-then-has_out_of_range-clause-broken
returns-then-has_out_of_range-clause-broken c =
    let s = c.args.self.now in
    let is = insts_of s in
    let b = c.requires.bad in
    let w = defined_within is b.id s.end b.there in
    let m = length-map s.insts.now plain_inst in
    let l : s.end < length s.insts.now = omega arith in
    let i = plain_inst (get_or s.insts.now s.end c.index-self-self.result) in
    let t = inst_at s.insts.now s.end c.index-self-self.result l in
    let os = map plain_operand c.seen.result.now in
    let a : AreSeen is s.end os = record { inst = i; there = t; same = c.seen.ensures } in
    let k : length c.seen.result.now ≡ length os = sym (length-map c.seen.result.now plain_operand) in
    IsFaulty.by_use (length c.seen.result.now) D1
    (match_true _ _ c.has_out_of_range.result c.if-has_out_of_range.true (c.has_out_of_range.ensures is s.end a))

pub returns-then-has_out_of_range-clause-least : goal.returns-then-has_out_of_range-clause-least
returns-then-has_out_of_range-clause-least c =
    λ q f. least_end c.args.self.now.bound (insts_of c.args.self.now) c.args.self.now.end q f

pub returns-then-has_operand_out_of_range-clause-broken : goal.returns-then-has_operand_out_of_range-clause-broken
returns-then-has_operand_out_of_range-clause-broken c =
    let s = c.args.self.now in
    let is = insts_of s in
    let b = c.requires.bad in
    let w = defined_within is b.id s.end b.there in
    let m = length-map s.insts.now plain_inst in
    let l : s.end < length s.insts.now = omega arith in
    let i = plain_inst (get_or s.insts.now s.end c.index-self-self.result) in
    let t = inst_at s.insts.now s.end c.index-self-self.result l in
    let a : AreBehind is s.end (map plain_operand c.behind.result.now) = record
    { inst = i; there = t; same = c.behind.ensures } in
    IsFaulty.by_operand (length c.behind.result.now) D1
    (match_true _ _ c.has_operand_out_of_range.result c.if-has_operand_out_of_range.true
    (c.has_operand_out_of_range.ensures is s.end a))

pub returns-then-has_operand_out_of_range-clause-least : goal.returns-then-has_operand_out_of_range-clause-least
returns-then-has_operand_out_of_range-clause-least c =
    λ q f. least_end c.args.self.now.bound (insts_of c.args.self.now) c.args.self.now.end q f

pub returns-clause-broken : goal.returns-clause-broken
returns-clause-broken c =
    let s = c.args.self.now in
    let is = insts_of s in
    let b = c.requires.bad in
    let w = defined_within is b.id s.end b.there in
    let m = length-map s.insts.now plain_inst in
    let l : s.end < length s.insts.now = omega arith in
    let i = plain_inst (get_or s.insts.now s.end c.index-self-self.result) in
    let t = inst_at s.insts.now s.end c.index-self-self.result l in
    let d = defined_here is s.end c.in-Some.id i t
    (sym c.in-Some.is ∙ c.result_of.ensures ∙ sym (c.requires.survey.places.early.result s.end i t)) in
    let e = result_same is s.end b.id c.in-Some.id b.there d in
    again_end s.bound is s.end b (λ o. false_true
    (sym c.if-is_out_of_range.false ∙ c.is_out_of_range.ensures.1 (rw e at o)))

pub returns-clause-least : goal.returns-clause-least
returns-clause-least c = λ q f.
    let s = c.args.self.now in
    let is = insts_of s in
    let b = c.requires.bad in
    let w = defined_within is b.id s.end b.there in
    let m = length-map s.insts.now plain_inst in
    let l : s.end < length s.insts.now = omega arith in
    let i = plain_inst (get_or s.insts.now s.end c.index-self-self.result) in
    let t = inst_at s.insts.now s.end c.index-self-self.result l in
    let os = map plain_operand c.seen.result.now in
    let a : AreSeen is s.end os = record { inst = i; there = t; same = c.seen.ensures } in
    let k : length c.seen.result.now ≡ length os = sym (length-map c.seen.result.now plain_operand) in
    let d = defined_here is s.end c.in-Some.id i t
    (sym c.in-Some.is ∙ c.result_of.ensures ∙ sym (c.requires.survey.places.early.result s.end i t)) in
    let n = match_false _ _ c.has_out_of_range.result c.if-has_out_of_range.false
    (c.has_out_of_range.ensures is s.end a) in
    let p : AreBehind is s.end (map plain_operand c.behind.result.now) = record
    { inst = i; there = t; same = c.behind.ensures } in
    let z = match_false _ _ c.has_operand_out_of_range.result c.if-has_operand_out_of_range.false
    (c.has_operand_out_of_range.ensures is s.end p) in
    least_again s.bound is s.end c.in-Some.id os c.behind.result.now q d
    (λ o. false_true (sym c.if-is_out_of_range.false ∙ c.is_out_of_range.ensures.1 o)) a
    (λ h. n (has_moved s.bound is s.end (length os) (length c.seen.result.now) D1 (sym k) h)) p z f
