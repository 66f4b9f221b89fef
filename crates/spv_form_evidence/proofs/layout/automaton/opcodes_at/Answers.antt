use Rattle.std.proofs.Common.{◌≡◌, ◌∙◌, ◌++◌, [], ◌∷◌, sym, ap, true, false}
use Rattle.std.proofs.lemmas.List.{append-nil}
use Rattle.spv_form_evidence.specs.layout.inner.Automaton.{followers, may_follow}
use Rattle.spv_form_evidence.proofs.lemmas.layout.Opcodes.{followers_more, no_followers}
use Rattle.spv_form_evidence.proofs.layout.automaton.opcodes_at.Goals.{then-may_follow+in_ok-push, else-may_follow}
use Rattle.spv_form_evidence.proofs.layout.automaton.opcodes_at.Goals as goal

pub loop-opcode-init : goal.loop-opcode-init
loop-opcode-init c = c.new-opcodes.ensures.items ∙ sym (no_followers c.args.profile c.args.state)

pub loop-opcode-preserved : goal.loop-opcode-preserved
loop-opcode-preserved c =
    let more = followers_more c.args.profile c.args.state c.loop-opcode.opcode in
    elim c.if-may_follow.branch [
      | then-may_follow+in_ok-push w ↦
          let on : may_follow c.args.profile c.args.state c.loop-opcode.opcode ≡ true = sym c.may_follow.ensures ∙
          w.if-may_follow.true in
          rw (w.opcodes-is, w.in_ok-push.ensures.items, more, on, c.loop-opcode.invariant)
          (ap (λ k. followers c.args.profile c.args.state c.loop-opcode.opcode ++ (k ∷ [])) w.from.ensures)
      | else-may_follow w ↦
          let off : may_follow c.args.profile c.args.state c.loop-opcode.opcode ≡ false = sym c.may_follow.ensures ∙
          w.if-may_follow.false in
          rw (w.opcodes-is, more, off, c.loop-opcode.invariant) (sym (append-nil _))
    ]
