use Rattle.std.proofs.Common.{refl, inl, inr, arith}
use Rattle.spv_commands.specs.Trouble.{memory_line}
use Rattle.spv_streams.specs.Run.{entry, function, memory, several}
use Rattle.spv_streams.proofs.Worked.{nothing_breaks}
use Rattle.spv_streams.proofs.laws.ending_examples.Goals as goal

pub returns-clause-runs : goal.returns-clause-runs
returns-clause-runs c = λ command text. record {
  done = λ h. absurd (omega (arith, h));
  error = λ _. (memory_line, memory, refl);
  failed = λ t. elim t [
    | inl a ↦ absurd (a refl)
    | inr b ↦
        elim b [ inl a ↦ absurd (a refl) | inr a ↦ absurd (a refl) ]
  ];
  unwritten = λ _ _. refl;
  unmade = λ _ _. refl;
  begun = λ t. elim t [ inl a ↦ absurd (a refl) | inr a ↦ absurd (a refl) ];
}

pub returns-clause-refused : goal.returns-clause-refused
returns-clause-refused c = nothing_breaks ⊥ ⊥ ⊥ ⊥

pub returns-clause-memory : goal.returns-clause-memory
returns-clause-memory c = λ text. memory

pub returns-clause-no_entry : goal.returns-clause-no_entry
returns-clause-no_entry c = λ text. entry tt

pub returns-clause-no_function : goal.returns-clause-no_function
returns-clause-no_function c = λ text. function tt

pub returns-clause-several : goal.returns-clause-several
returns-clause-several c = λ text. several tt
