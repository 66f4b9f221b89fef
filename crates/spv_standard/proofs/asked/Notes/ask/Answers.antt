use Rattle.std.proofs.Common.{◌≡◌, ◌∙◌, inl, inr, sym, subst, ℕ}
use Rattle.spv_standard.specs.declared.asked.Asked.{Asked}
use Rattle.spv_standard.specs.inner.Asked.{IsAskedBy}
use Rattle.spv_standard.proofs.Noting.{one_noted}
use Rattle.spv_standard.proofs.asked.Notes.ask.Goals as goal

pub returns-then-place-lt-NOTED-clause-noted : goal.returns-then-place-lt-NOTED-clause-noted
returns-then-place-lt-NOTED-clause-noted c = λ G minor is late fit noted k a e known.
    let l = c.args.late.now in
    elim (one_noted c.args.self.now.notes c.asked_of-asked.result c.from-place.result k a e) [
      | inl old ↦ noted k a old known
      | inr own ↦
          let q : k ≡ c.args.opcode = own.0 ∙ c.from-place.ensures in
          subst (λ (b : Asked). IsAskedBy G minor is l k b) (sym own.1)
          (subst (λ (m : ℕ). IsAskedBy G minor is l m c.asked_of-asked.result) (sym q)
          (c.asked_of-asked.ensures G minor is late fit))
    ]
