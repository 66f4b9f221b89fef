use Rattle.std.proofs.Common.{◌∙◌, ◌∷◌, arith}
use Rattle.spv_standard_evidence.proofs.Missed.{front_of, last_read, some_nodes}
use Rattle.spv_standard_evidence.proofs.interfaces.missing.without_last.Goals as goal

pub overflow_sub-len : goal.overflow_sub-len
overflow_sub-len c =
    let r = c.requires in
    let k = c.args.nodes.ok.0 in
    let m = c.pop.new.self.ok.0 in
    let l = c.len.ensures in
    let xs = c.pop.new.self.items in
    let f = front_of xs c.args.nodes.items _ r.0 (r.1 ∷ r.2) c.pop.ensures.rest (omega (arith, k)) r.3 in
    some_nodes c.pop.new.self.items r.2 c.len.result r.1 (omega (arith, l, m)) f

pub index-last-requires : goal.index-last-requires
index-last-requires c =
    let r = c.requires in
    let k = c.args.nodes.ok.0 in
    let m = c.pop.new.self.ok.0 in
    let l = c.len.ensures in
    let xs = c.pop.new.self.items in
    let f = front_of xs c.args.nodes.items _ r.0 (r.1 ∷ r.2) c.pop.ensures.rest (omega (arith, k)) r.3 in
    let s = some_nodes c.pop.new.self.items r.2 c.len.result r.1 (omega (arith, l, m)) f in
    omega (arith, s, l)

pub returns : goal.returns
returns c = λ goal last rest e.
    let k = c.args.nodes.ok.0 in
    let m = c.pop.new.self.ok.0 in
    let l = c.len.ensures in
    let xs = c.pop.new.self.items in
    let f = front_of xs c.args.nodes.items _ goal (last ∷ rest) c.pop.ensures.rest (omega (arith, k)) e in (
      f,
      c.index-last.ensures
          ∙ last_read c.pop.new.self.items rest c.len.result last c.index-last.result.now (omega (arith, l, m)) f,
    )
