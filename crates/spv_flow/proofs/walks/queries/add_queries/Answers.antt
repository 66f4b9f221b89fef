use Rattle.std.proofs.Common.{◌<◌, ◌∙◌, inl, inr, ℕ, length, nat_le, ◌&&◌, get_or, sym, subst, eq-eqb, arith}
use Rattle.std.proofs.lemmas.Bool.{eqb-true}
use Rattle.std.proofs.lemmas.Result.{on_ok_weaker}
use Rattle.spv_module.specs.declared.opcode.TheConstants as opcode
use Rattle.spv_table.specs.Table.{Table}
use Rattle.spv_module.specs.Module.{plain_inst}
use Rattle.spv_graphs.specs.declared.queries.Query.{Query}
use Rattle.spv_flow.specs.branches.Target.{is_phi, is_label, IsOp}
use Rattle.spv_flow.proofs.lemmas.branches.Labelled.{inst_get, op_tells, op_holds}
use Rattle.spv_flow.specs.walks.inner.Code.{insts_of}
use Rattle.spv_flow.specs.walks.inner.Due.{HasUseQuery, HasPairQuery, IsQueryAt}
use Rattle.spv_flow.proofs.lemmas.walks.Adding.{adds_none, adds_as}
use Rattle.spv_flow.proofs.lemmas.walks.Branching.{within_by}
use Rattle.spv_flow.proofs.lemmas.walks.Starting.{start_within}
use Rattle.spv_flow.proofs.walks.queries.add_queries.Goals as goal

pub add_first_use-requires-clause-op : goal.add_first_use-requires-clause-op
add_first_use-requires-clause-op c =
    let code = c.args.code.now in
    let i = plain_inst (get_or code.insts.now c.args.at c.index-code-at.result) in
    let there = inst_get code.insts.now c.args.at c.index-code-at.result c.requires.at in
    op_holds (insts_of code) c.args.at i (λ n. nat_le opcode.LABEL n && nat_le n opcode.SWITCH) there
    (sym c.is_label_or_branch.ensures ∙ c.if-is_label_or_branch.true)

pub returns-then-is_label_or_branch : goal.returns-then-is_label_or_branch
returns-then-is_label_or_branch c =
    let code = c.args.code.now in
    let starts = c.args.blocks.now.starts.now in
    let i = plain_inst (get_or code.insts.now c.args.at c.index-code-at.result) in
    let there = inst_get code.insts.now c.args.at c.index-code-at.result c.requires.at in
    let h = within_by i.opcode (sym c.is_label_or_branch.ensures ∙ c.if-is_label_or_branch.true) in
    let low = h.0 in
    let plain : ¬ (IsOp (insts_of code) c.args.at is_phi) = λ p.
    let e = eqb-true i.opcode opcode.PHI (op_tells (insts_of code) c.args.at i is_phi there p) in
    omega (arith, low, e) in
    on_ok_weaker c.add_first_use.result
    (λ h. adds_as code (λ (G : Table) (a : Query). HasUseQuery G (insts_of code) starts c.args.block c.args.at a)
    (λ (G : Table) (a : Query). IsQueryAt G (insts_of code) starts c.args.block c.args.at a)
    c.args.queries.now.items c.add_first_use.new.queries.items h
    (λ G is a u. inl (plain, u))
    (λ G is a k. elim k [ inl u ↦ u.1 | inr p ↦ absurd (plain p.0) ]))
    c.add_first_use.ensures

pub returns-then-opcode-ne-PHI : goal.returns-then-opcode-ne-PHI
returns-then-opcode-ne-PHI c =
    let code = c.args.code.now in
    let starts = c.args.blocks.now.starts.now in
    let i = plain_inst (get_or code.insts.now c.args.at c.index-code-at.result) in
    let there = inst_get code.insts.now c.args.at c.index-code-at.result c.requires.at in
    let plain : ¬ (IsOp (insts_of code) c.args.at is_phi) = λ p. c.if-opcode-ne-PHI.true
    (eqb-true i.opcode opcode.PHI (op_tells (insts_of code) c.args.at i is_phi there p)) in
    on_ok_weaker c.add_uses.result
    (λ h. adds_as code (λ (G : Table) (a : Query). HasUseQuery G (insts_of code) starts c.args.block c.args.at a)
    (λ (G : Table) (a : Query). IsQueryAt G (insts_of code) starts c.args.block c.args.at a)
    c.args.queries.now.items c.add_uses.new.queries.items h
    (λ G is a u. inl (plain, u))
    (λ G is a k. elim k [ inl u ↦ u.1 | inr p ↦ absurd (plain p.0) ]))
    c.add_uses.ensures

pub returns-then-code-start-eq-LABEL : goal.returns-then-code-start-eq-LABEL
returns-then-code-start-eq-LABEL c =
    let code = c.args.code.now in
    let starts = c.args.blocks.now.starts.now in
    let s = c.args.start in
    let i = plain_inst (get_or code.insts.now c.args.at c.index-code-at.result) in
    let there = inst_get code.insts.now c.args.at c.index-code-at.result c.requires.at in
    let phi = op_holds (insts_of code) c.args.at i is_phi there (eq-eqb i.opcode opcode.PHI c.if-opcode-ne-PHI.false) in
    let j = plain_inst (get_or code.insts.now s c.index-code-start.result) in
    let within : s < length code.insts.now = rw c.requires.start
    (start_within code c.args.blocks.now c.requires.blocks c.args.block c.requires.block) in
    let here = inst_get code.insts.now s c.index-code-start.result within in
    let label = subst (λ (n : ℕ). IsOp (insts_of code) n is_label) c.requires.start
    (op_holds (insts_of code) s j is_label here (eq-eqb j.opcode opcode.LABEL c.if-code-start-eq-LABEL.true)) in
    on_ok_weaker c.add_pairs.result
    (λ h. adds_as code (λ (G : Table) (a : Query). HasPairQuery G (insts_of code) starts c.args.at a)
    (λ (G : Table) (a : Query). IsQueryAt G (insts_of code) starts c.args.block c.args.at a)
    c.args.queries.now.items c.add_pairs.new.queries.items h
    (λ G is a p. inr (phi, label, p))
    (λ G is a k. elim k [ inl u ↦ absurd (u.0 phi) | inr p ↦ p.2 ]))
    c.add_pairs.ensures

pub returns : goal.returns
returns c =
    let code = c.args.code.now in
    let starts = c.args.blocks.now.starts.now in
    let s = c.args.start in
    let i = plain_inst (get_or code.insts.now c.args.at c.index-code-at.result) in
    let there = inst_get code.insts.now c.args.at c.index-code-at.result c.requires.at in
    let phi = op_holds (insts_of code) c.args.at i is_phi there (eq-eqb i.opcode opcode.PHI c.if-opcode-ne-PHI.false) in
    let j = plain_inst (get_or code.insts.now s c.index-code-start.result) in
    let within : s < length code.insts.now = rw c.requires.start
    (start_within code c.args.blocks.now c.requires.blocks c.args.block c.requires.block) in
    let here = inst_get code.insts.now s c.index-code-start.result within in
    adds_none code (λ (G : Table) (a : Query). IsQueryAt G (insts_of code) starts c.args.block c.args.at a)
    c.args.queries.now.items (λ G is a k. elim k [
      | inl u ↦ u.0 phi
      | inr p ↦ c.if-code-start-eq-LABEL.false
          (eqb-true j.opcode opcode.LABEL (op_tells (insts_of code) s j is_label here
          (subst (λ (n : ℕ). IsOp (insts_of code) n is_label) (sym c.requires.start) p.1)))
    ])

pub bounds-code-start : goal.bounds-code-start
bounds-code-start c =
    rw c.requires.start (start_within c.args.code.now c.args.blocks.now c.requires.blocks c.args.block c.requires.block)
