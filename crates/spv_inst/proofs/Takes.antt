-- One shape takes the same words in one way.
use Rattle.std.proofs.Common.{◌≡◌, ◌≢◌, ◌++◌, ℕ, List, [], ◌∷◌, map, refl, ap, arith}
use Rattle.spv_module.specs.Operand.{Plain, Text}
use Rattle.spv_module.specs.Shape.{Slot, alone, Shape, AsParts}
use Rattle.spv_module.specs.Spelling.{Takes, result_type, result, id, word, narrow, wide, text, value, mask}
use Rattle.spv_module.specs.Spelling.{parameters_of, mask_parameters}
use Rattle.spv_inst.proofs.Texts.{text_same, spelling_same}

-- what two ways of taking share
pub record SameFront (o p : Plain) (ws vs : List ℕ) (ss ts : List Slot) (us xs : List ℕ) : Type 0 where
  pub operand : o ≡ p
  pub words : ws ≡ vs
  pub slots : ss ≡ ts
  pub rest : us ≡ xs

pub takes_same : (k : ℕ) (sh : Shape) (o p : Plain) (ws vs : List ℕ) (ss ts : List Slot) (us xs : List ℕ)
    → Takes k sh o ws ss → Takes k sh p vs ts → ws ++ us ≡ vs ++ xs → SameFront o p ws vs ss ts us xs
takes_same k _ _ _ _ _ _ _ us xs (result_type x) (result_type y) e =
    record { operand = cc; words = cc; slots = cc; rest = cc }
takes_same k _ _ _ _ _ _ _ us xs (result x) (result y) e = record { operand = cc; words = cc; slots = cc; rest = cc }
takes_same k _ _ _ _ _ _ _ us xs (id x) (id y) e = record { operand = cc; words = cc; slots = cc; rest = cc }
takes_same k _ _ _ _ _ _ _ us xs (word x) (word y) e = record { operand = cc; words = cc; slots = cc; rest = cc }
takes_same k _ _ _ _ _ _ _ us xs (narrow w x h) (narrow _ y g) e =
    record { operand = cc; words = cc; slots = cc; rest = cc }
takes_same k _ _ _ _ _ _ _ us xs (narrow w x h) (wide _ y z g) e = absurd (omega arith)
takes_same k _ _ _ _ _ _ _ us xs (wide w x y h) (narrow _ z g) e = absurd (omega arith)
takes_same k _ _ _ _ _ _ _ us xs (wide w x y h) (wide _ a b g) e =
    record { operand = cc; words = cc; slots = cc; rest = cc }
takes_same k _ _ _ _ _ _ _ us xs (text t ws p h z u) (text s vs q g y v) e =
    let r = text_same ws vs t s p q us xs h g e in
    record { operand = ap Text r.texts; words = r.words; slots = refl; rest = r.rests }
takes_same k _ _ _ _ _ _ _ us xs (value es x ks h) (value _ y js g) e =
    let z : x ≡ y = cc in
    let f : ks ≡ js = cc in
    record { operand = cc; words = cc; slots = ap (map alone) f; rest = cc }
takes_same k _ _ _ _ _ _ _ us xs (mask es x ks h) (mask _ y js g) e =
    let z : x ≡ y = cc in
    let f : ks ≡ js = cc in
    record { operand = cc; words = cc; slots = ap (map alone) f; rest = cc }

-- what two ways of spelling an operand share
pub record SameWords (ws vs : List ℕ) (ss ts : List Slot) : Type 0 where
  pub words : ws ≡ vs
  pub slots : ss ≡ ts

pub takes_back : (k : ℕ) (sh : Shape) (o p : Plain) (ws vs : List ℕ) (ss ts : List Slot)
    → Takes k sh o ws ss → Takes k sh p vs ts → o ≡ p → SameWords ws vs ss ts
takes_back k _ _ _ _ _ _ _ (result_type x) (result_type y) e = record { words = cc; slots = cc }
takes_back k _ _ _ _ _ _ _ (result x) (result y) e = record { words = cc; slots = cc }
takes_back k _ _ _ _ _ _ _ (id x) (id y) e = record { words = cc; slots = cc }
takes_back k _ _ _ _ _ _ _ (word x) (word y) e = record { words = cc; slots = cc }
takes_back k _ _ _ _ _ _ _ (narrow w x h) (narrow _ y g) e = record { words = cc; slots = cc }
takes_back k _ _ _ _ _ _ _ (narrow w x h) (wide _ y z g) e = absurd (omega arith)
takes_back k _ _ _ _ _ _ _ (wide w x y h) (narrow _ z g) e = absurd (omega arith)
takes_back k _ _ _ _ _ _ _ (wide w x y h) (wide _ a b g) e = record { words = cc; slots = cc }
takes_back k _ _ _ _ _ _ _ (text t ws p h z u) (text s vs q g y v) e =
    let f : t ≡ s = cc in
    record { words = spelling_same ws vs t s p q h g z y f; slots = refl }
takes_back k _ _ _ _ _ _ _ (value es x ks h) (value _ y js g) e =
    let z : x ≡ y = cc in
    let f : ks ≡ js = cc in
    record { words = cc; slots = ap (map alone) f }
takes_back k _ _ _ _ _ _ _ (mask es x ks h) (mask _ y js g) e =
    let z : x ≡ y = cc in
    let f : ks ≡ js = cc in
    record { words = cc; slots = ap (map alone) f }

-- parts are no operand
pub takes_no_parts : (k : ℕ) (sh : Shape) (o : Plain) (ws : List ℕ) (ss ts : List Slot) → Takes k sh o ws ss
    → sh ≡ AsParts ts → ⊥
takes_no_parts k _ _ _ _ ts (result_type x) e = cc
takes_no_parts k _ _ _ _ ts (result x) e = cc
takes_no_parts k _ _ _ _ ts (id x) e = cc
takes_no_parts k _ _ _ _ ts (word x) e = cc
takes_no_parts k _ _ _ _ ts (narrow w x h) e = cc
takes_no_parts k _ _ _ _ ts (wide w x y h) e = cc
takes_no_parts k _ _ _ _ ts (text t ws p h z u) e = cc
takes_no_parts k _ _ _ _ ts (value es x ks h) e = cc
takes_no_parts k _ _ _ _ ts (mask es x ks h) e = cc

-- a text takes a word at least
pub text_nonempty : (ws t p : List ℕ) → Rattle.spv_module.specs.Spelling.HoldsText ws t p → ws ≢ []
text_nonempty [] [] p h e = let o = h.octets in cc
text_nonempty [] (x ∷ t) p h e = let o = h.octets in cc
text_nonempty (w ∷ ws) t p h e = cc

-- an operand takes a word at least
pub takes_nonempty : (k : ℕ) (sh : Shape) (o : Plain) (ws : List ℕ) (ss : List Slot) → Takes k sh o ws ss → ws ≢ []
takes_nonempty k _ _ _ _ (result_type x) e = cc
takes_nonempty k _ _ _ _ (result x) e = cc
takes_nonempty k _ _ _ _ (id x) e = cc
takes_nonempty k _ _ _ _ (word x) e = cc
takes_nonempty k _ _ _ _ (narrow w x h) e = cc
takes_nonempty k _ _ _ _ (wide w x y h) e = cc
takes_nonempty k _ _ _ _ (text t ws p h z u) e = text_nonempty ws t p h e
takes_nonempty k _ _ _ _ (value es x ks h) e = cc
takes_nonempty k _ _ _ _ (mask es x ks h) e = cc
