-- Laws of chains.
use Rattle.std.proofs.Common.{◌≡◌, ℕ, subst}
use Rattle.spv_flow.specs.calls.Chain.{Chain, alone, more}

-- a chain goes on as another
pub joined : (R : ℕ → ℕ → Type 0) (f g h : ℕ) → Chain R f g → Chain R g h → Chain R f h
joined R f g _ a alone = a
joined R f g _ a (more k h b s) = more k h (joined R f g k a b) s

-- one step
pub single : (R : ℕ → ℕ → Type 0) (f g : ℕ) → R f g → Chain R f g
single R f g s = more f g alone s

-- a chain of other steps
pub mapped : (R S : ℕ → ℕ → Type 0) → ((f g : ℕ) → R f g → S f g) → (f g : ℕ) → Chain R f g → Chain S f g
mapped R S t f _ alone = alone
mapped R S t f _ (more k h b s) = more k h (mapped R S t f k b) (t k h s)

-- a chain the other way round
pub turned : (R S : ℕ → ℕ → Type 0) → ((f g : ℕ) → R f g → S g f) → (f g : ℕ) → Chain R f g → Chain S g f
turned R S t f _ alone = alone
turned R S t f _ (more k h b s) = joined S h k f (single S h k (t k h s)) (turned R S t f k b)

-- what each step keeps, a chain keeps
pub keeps : (R : ℕ → ℕ → Type 0) (P : ℕ → Type 0) → ((f g : ℕ) → R f g → P f → P g) → (f g : ℕ) → Chain R f g → P f
    → P g
keeps R P t f _ alone p = p
keeps R P t f _ (more k h b s) p = t k h s (keeps R P t f k b p)

pub moved : (R : ℕ → ℕ → Type 0) (f g h k : ℕ) → f ≡ h → g ≡ k → Chain R f g → Chain R h k
moved R f g h k a b c = let P : ℕ → Type 0 = λ x. Chain R x g in let Q : ℕ → Type 0 = λ x. Chain R h x in
    subst Q b (subst P a c)
