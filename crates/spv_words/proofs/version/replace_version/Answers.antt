use Rattle.std.proofs.Common.{◌≡◌, ◌++◌, ◌∙◌, ap, drop, refl, sym, None, Some}
use Rattle.spv_words.specs.declared.words.Order.{Order}
use Rattle.spv_words.specs.declared.words.Order.TheVariants.{Little}
use Rattle.spv_words.proofs.Replacing.{short, replaced_in, kept_by}
use Rattle.spv_words.proofs.version.replace_version.Goals as goal

no_order : (o : Order) → None ≡ Some o → ⊥
no_order o e = cc

pub returns-then-bytes-lt-FRONT_SIZE : goal.returns-then-bytes-lt-FRONT_SIZE
returns-then-bytes-lt-FRONT_SIZE c = sym (short c.args.bytes.now c.if-bytes-lt-FRONT_SIZE.true)

pub returns-in-Some : goal.returns-in-Some
returns-in-Some c =
    let front = c.copy_from_slice.ensures.after ∙ c.version_front.ensures in
    ap (λ xs. xs ++ drop 8 c.args.bytes.now) front ∙ sym (replaced_in c.args.bytes.now c.in-Some.order c.in-Some.ensures.found c.in-Some.ensures.little)

pub returns-in_default : goal.returns-in_default
returns-in_default c = sym (kept_by c.args.bytes.now (λ e. no_order Little (c.in_default.ensures.little e)) (c.in_default.ensures.none refl))
