-- Why a call answers a status other than 0.
use Rattle.std.proofs.Common.{◌≡◌, ◌≢◌, ℕ, List, Option, subst, sym}
use Rattle.spv_builtin.specs.Source.{breaks}
use Rattle.spv_grammar.specs.declared.error.GrammarError.{GrammarError}
use Rattle.spv_grammar.specs.declared.error.GrammarError.TheVariants as grammar
use Rattle.spvk.specs.Grammar.{IsReason, refused, memory}
use Rattle.spvk.specs.Status.{status_of}

-- want of memory
pub want : (text : Option (List ℕ)) (n : ℕ) → n ≡ 1 → IsReason text n
want text n e = subst (IsReason text) (sym e) memory

-- a refused grammar file
pub refusal : (text : Option (List ℕ)) (e : GrammarError) → (e ≢ grammar.J8 → breaks text e)
    → IsReason text (status_of e)
refusal text grammar.J1 h = refused grammar.J1 (h (λ e. cc))
refusal text grammar.J2 h = refused grammar.J2 (h (λ e. cc))
refusal text grammar.J3 h = refused grammar.J3 (h (λ e. cc))
refusal text grammar.J4 h = refused grammar.J4 (h (λ e. cc))
refusal text grammar.J5 h = refused grammar.J5 (h (λ e. cc))
refusal text grammar.J6 h = refused grammar.J6 (h (λ e. cc))
refusal text grammar.J7 h = refused grammar.J7 (h (λ e. cc))
refusal text grammar.J8 h = memory
