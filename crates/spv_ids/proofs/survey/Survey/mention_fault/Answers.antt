use Rattle.std.proofs.Common.{◌∙◌, sym}
use Rattle.spv_ids.specs.inner.Faulty.{IsBadMention}
use Rattle.spv_ids.specs.inner.Survey.{insts_of}
use Rattle.spv_ids.proofs.Behind.{mention_range, mention_undefined}
use Rattle.spv_ids.proofs.Bools.{false_true}
use Rattle.spv_ids.proofs.Scopes.{undefined_by, defined_by, mention_sound}
use Rattle.spv_ids.proofs.survey.Survey.mention_fault.Goals as goal

pub returns-then-is_out_of_range : goal.returns-then-is_out_of_range
returns-then-is_out_of_range c = (
  IsBadMention.out_of_range (c.is_out_of_range.ensures.0 c.if-is_out_of_range.true),
  λ q b. mention_range c.args.self.now.bound (insts_of c.args.self.now) c.args.id q b,
)

pub returns-then-not-is_defined : goal.returns-then-not-is_defined
returns-then-not-is_defined c =
    let s = c.args.self.now in
    let e = sym c.is_defined.ensures ∙ c.if-not-is_defined.true in
    let e' = rw (c.get.ensures, c.get-2.ensures) at e in (
      IsBadMention.undefined (undefined_by s c.args.id c.requires.survey e'),
      λ q b. mention_undefined s.bound (insts_of s) c.args.id q
          (λ h. false_true (sym c.if-is_out_of_range.false ∙ c.is_out_of_range.ensures.1 h)) b,
    )

pub returns : goal.returns
returns c = λ q b.
    let s = c.args.self.now in
    let e = sym c.is_defined.ensures ∙ c.if-not-is_defined.false in
    let e' = rw (c.get.ensures, c.get-2.ensures) at e in
    let d = defined_by s c.args.id c.requires.survey e' in
    mention_sound s.bound (insts_of s) c.args.id d.place q
    (λ h. false_true (sym c.if-is_out_of_range.false ∙ c.is_out_of_range.ensures.1 h)) d.there b
