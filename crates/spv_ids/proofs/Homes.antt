-- Functions in which definitions stand.
use Rattle.std.proofs.Common.{◌≡◌, ◌∙◌, ◌<◌, ◌≤◌, ℕ, List, sym, ap, Bool, true, false, Option, Some, None, length}
use Rattle.std.proofs.Common.{arith, nat_eq}
use Rattle.std.specs.Prelude.{slice_get, MatchBool}
use Rattle.std.specs.Option.{option_eq}
use Rattle.std.proofs.lemmas.Option.{slice_get-get_or}
use Rattle.spv_module.specs.Operand.{PlainInst}
use Rattle.spv_layout.specs.declared.place.Place.{Place}
use Rattle.spv_layout.specs.Place.{IsOfFunction}
use Rattle.spv_layout.proofs.Places.{function_same}
use Rattle.spv_ids.specs.Definition.{IsDefinedAt, IsLocalTo}
use Rattle.spv_ids.specs.declared.notes.Notes.{Notes}
use Rattle.spv_ids.specs.inner.Notes.{kept}
use Rattle.spv_ids.specs.inner.Known.{IsHome, IsFunctionOf, IsAsLocal, IsOneBefore, AreFirst}
use Rattle.spv_ids.specs.inner.Survey.{ArePlaces, AreGlobal}
use Rattle.spv_ids.proofs.Bools.{eq_tells, ne_tells}
use Rattle.spv_ids.proofs.Defining.{defined_within}

-- a home is one of the function alone
pub home_same : (is : List PlainInst) (m f g : ℕ) → IsHome is m f → IsHome is m g → f ≡ g
home_same is m f g h k = function_same is m f g h.of k.of

pub home_moved : (is : List PlainInst) (m f g : ℕ) → f ≡ g → IsHome is m f → IsHome is m g
home_moved is m f g e h = rw (← e) h

-- a definition of a function other than its OpFunction
pub home_of_function : (is : List PlainInst) (places : List Place) (x m f : ℕ) → ArePlaces is places
    → IsDefinedAt is x m → IsOfFunction is m f → (f ≡ m → ⊥) → IsHome is m f
home_of_function is places x m f p d o n =
    let u = o.begun.up_to in
    record { of = o; after = omega (arith, n); before = p.ends m x d }

-- an OpFunction is in no function
pub no_home_here : (is : List PlainInst) (m f : ℕ) → IsOfFunction is m m → ¬ (IsHome is m f)
no_home_here is m f o h = let e = function_same is m m f o h.of in let a = h.after in absurd (omega (arith, e))

pub no_home_at : (is : List PlainInst) (m g f : ℕ) → g ≡ m → IsOfFunction is m g → ¬ (IsHome is m f)
no_home_at is m g f e o h = let q = function_same is m g f o h.of in let a = h.after in absurd (omega (arith, e, q))

pub no_home : (is : List PlainInst) (m f : ℕ) → ((g : ℕ) → ¬ (IsOfFunction is m g)) → ¬ (IsHome is m f)
no_home is m f n h = n f h.of

pub local_to : (is : List PlainInst) (x m f : ℕ) → IsDefinedAt is x m → IsHome is m f → IsLocalTo is x f
local_to is x m f d h = record { place = m; defined = d; of = h.of; after = h.after; before = h.before }

pub home_of_local : (is : List PlainInst) (x f : ℕ) (l : IsLocalTo is x f) → IsHome is l.place f
home_of_local is x f l = record { of = l.of; after = l.after; before = l.before }

-- functions do not overlap
pub between : (is : List PlainInst) (k n m f : ℕ) → k ≤ n → n ≤ m → IsOfFunction is k f → IsOfFunction is m f
    → IsOfFunction is n f
between is k n m f a b o q =
    let u = o.begun.up_to in
    let w = q.begun.within in
    record {
      begun = record {
        within = omega arith;
        up_to = omega arith;
        there = o.begun.there;
        last = λ l g h. q.begun.last l g (omega arith);
      };
      not_ended = λ l g h. q.not_ended l g (omega arith);
    }

-- an instruction after an OpFunction and before another instruction of the function
pub home_within : (is : List PlainInst) (m n f : ℕ) → f < m → m < n → IsOfFunction is n f → IsHome is m f
home_within is m n f a b o =
    let w = o.begun.within in
    record {
      of = record {
        begun = record {
          within = omega arith;
          up_to = omega arith;
          there = o.begun.there;
          last = λ l g h. o.begun.last l g (omega arith);
        };
        not_ended = λ l g h. o.not_ended l g (omega arith);
      };
      after = a;
      before = o.not_ended m (omega arith) b;
    }

-- which of two definitions is the more local
pub more_local_none : (is : List PlainInst) (from one other : ℕ) → ((f : ℕ) → ¬ (IsHome is other f))
    → IsAsLocal is from one other
more_local_none is from one other n = record { home = λ f h. absurd (n f h); here = λ f o h. absurd (n f h) }

pub more_local_here : (is : List PlainInst) (from one other f : ℕ) → IsFunctionOf is from (Some f) → IsHome is one f
    → IsAsLocal is from one other
more_local_here is from one other f o h = record {
  home = λ g k. (f, h);
  here = λ g q k. let e : f ≡ g = function_same is from f g o q in home_moved is one f g e h;
}

pub more_local_other : (is : List PlainInst) (from one other f g : ℕ) (here : Option ℕ) → IsFunctionOf is from here
    → IsHome is one f → IsHome is other g → (here ≡ Some f → ⊥) → IsAsLocal is from other one
more_local_other is from one other f g None o h k n = record { home = λ e a. (g, k); here = λ e a b. absurd (o e a) }
more_local_other is from one other f g (Some l) o h k n = record {
  home = λ e a. (g, k);
  here = λ e a b. let p : l ≡ e = function_same is from l e o a in let q : f ≡ e = home_same is one f e h b in
      absurd (n (ap Some (p ∙ sym q)));
}

pub as_local_self : (is : List PlainInst) (from m : ℕ) → IsAsLocal is from m m
as_local_self is from m = record { home = λ f h. (f, h); here = λ f o h. h }

pub as_local_after : (is : List PlainInst) (from l m k : ℕ) → IsAsLocal is from l m → IsAsLocal is from m k
    → IsAsLocal is from l k
as_local_after is from l m k a b = record {
  home = λ f h. let g = b.home f h in a.home g.0 g.1;
  here = λ f o h. a.here f o (b.here f o h);
}

-- what a place says of an instruction
pub function_at : (is : List PlainInst) (places : List Place) (n f : ℕ) (p : Place) → ArePlaces is places
    → slice_get places n ≡ Some p → p.function ≡ Some f → IsOfFunction is n f
function_at is places n f p a h e = let t = (a.place n p h).function in rw e at t

pub no_function_at : (is : List PlainInst) (places : List Place) (n f : ℕ) (p : Place) → ArePlaces is places
    → slice_get places n ≡ Some p → p.function ≡ None → ¬ (IsOfFunction is n f)
no_function_at is places n f p a h e o = let t = (a.place n p h).function in let t' = rw e at t in t' f o

pub no_place_at : (is : List PlainInst) (places : List Place) (n f : ℕ) → ArePlaces is places
    → slice_get places n ≡ None → ¬ (IsOfFunction is n f)
no_place_at is places n f a h o =
    let w = o.begun.within in
    let c = a.count in
    let l : n < length places = omega arith in
    let g = slice_get-get_or places n (record { section = 0; function = None; block = None; word = 0 }) l in
    cc

pub more_local_test : (is : List PlainInst) (from one other f g : ℕ) (here : Option ℕ) (b : Bool)
    → b ≡ option_eq nat_eq here (Some f) → IsFunctionOf is from here → IsHome is one f → IsHome is other g
    → MatchBool b (IsAsLocal is from one other) (IsAsLocal is from other one)
more_local_test is from one other f g None true e o h k = cc
more_local_test is from one other f g None false e o h k = more_local_other is from one other f g None o h k (λ q. cc)
more_local_test is from one other f g (Some l) true e o h k = let s : l ≡ f = eq_tells l f (sym e) in
    let o' = rw s at o in more_local_here is from one other f o' h
more_local_test is from one other f g (Some l) false e o h k =
    more_local_other is from one other f g (Some l) o h k (λ q. ne_tells l f (sym e) cc)

-- Before which instruction no definition is local.

pub global_none : (is : List PlainInst) → AreGlobal is 0
global_none is = record { none = λ k x l. absurd (omega arith) }

one_place : (is : List PlainInst) (n x k m : ℕ) (o : Option ℕ) → IsOneBefore is n x o → k < n → IsDefinedAt is x k
    → m < n → IsDefinedAt is x m → m ≡ k
one_place is n x k m None f a b c d = absurd (f k a b)
one_place is n x k m (Some l) f a b c d = f.only m c d ∙ sym (f.only k a b)

pub global_before : (bound : ℕ) (is : List PlainInst) (end n : ℕ) (d : Notes) → AreFirst bound is end d
    → length is ≤ end → n ≤ length is → ((k f : ℕ) → k < n → ¬ (IsOfFunction is k f)) → AreGlobal is n
global_before bound is end n d a g h f = record {
  none = λ k x l e (q, t).
      let w = defined_within is x t.place t.defined in
      let s = one_place is end x k t.place (kept d x) (a.one x) (omega arith) e (omega arith) t.defined in
      let o = t.of in
      f k q l (rw s at o);
}

pub of_moved : (is : List PlainInst) (m n f : ℕ) → m ≡ n → IsOfFunction is m f → IsOfFunction is n f
of_moved is m n f e o = rw (← e) o
