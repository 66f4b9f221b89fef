-- How the owner of a handle meets the `requires*` of a check: it lends the table for a lifetime of its own, cuts what
-- it
-- can then show for each thread that reads, joins it again once they are done, and has the table back. Assumes `Logic`.
use Rattle.std.proofs.Common.{ℕ, [], ◌∷◌}
use seplogic.Ra.Ura.{Ura}
use mir.Raw.{raw as bare}
use base.Share
use base.Fraction.{full_share}
use base.Logic.{ent, ex, sep}
use base.Fml.{Lft, Share, Incl-refl, flft, ftrue}
use types.Logic.{Logic, sem}
use types.Kit.{‵, ◌⊛◌, given, later, ◌$◌, ◌∵◌, !, qed, move, drop, split, fsplit, fjoin, fpick, fpack, learn, show}
use types.Kit.{updating, now, await, use1, use2, done}
use types.Tokens.{lft_new, lft_end, bor_new, lent_back}
use denote.Memory.{lone}
use denote.Opens.{hide, shr_dup}
use denote.RawPtr.{Ptr, block_ptr, lies_at, Testable}
use denote.Steps.{nothing}
use denote.Struct.Lending.{lent_at, Lends-first, Lends-lies}
use Rattle.std.specs.contracts.impls.GlobalAllocator.TheImpl.{ghosts}
use Rattle.spv_table.specs.Table.{Table}
use Rattle.spv_table.specs.contracts.table.Table.{the_row as the_table}
use Rattle.spv_table.proofs.table.Table.TheLaws as table_laws
use Rattle.spvk.specs.Held.{boxed, heap, lent, shown}
use Rattle.spvk.proofs.Handles.{tested}

module _ {M : Type 1} {𝓤 : Ura M} (𝓛 : Logic 𝓤) (b o : ℕ) (G : Table) where
  open 𝓛 use {H}

  abbrev p : Ptr
  p = block_ptr b o

  pub lend_out : ent 𝓤 (sem 𝓛 (boxed p G)) (H.⇛ (ex 𝓤 (λ (ν : ℕ). sem 𝓛 (lent p G ν))))
  lend_out =
      qed 𝓛 (‵ (boxed p G) ∷ []) ∵ updating ! $ use1 𝓛 (given (Testable p) (‵ (boxed p G))) (tested 𝓛 p G) $ learn !
      (λ tests. lft_new ! tt (λ ν. move ! (1 ∷ []) $ bor_new ! tt (ν ∷ []) $ move ! (0 ∷ 2 ∷ []) $
      use2 𝓛 (later (‵ (lent_at the_table p G (ν ∷ [])) ⊛ ‵ (flft (ν ∷ []) full_share)))
      (Lends-first 𝓛 (lies_at the_table full_share p G) (ghosts.dealloc_token heap (bare (lone the_table.mir)) p)
      (lent_at the_table p G) the_table.lives
      (Lends-lies 𝓛 the_table the_table.lives p G (table_laws.the_row_laws.shares 𝓛 G))
      (ν ∷ []) ((ν ∷ [], full_share) ∷ []) (table_laws.the_within (ν ∷ []))
      (Incl-refl (ν ∷ []))) $ await ! tt $ split ! $ fsplit ! $ drop ! $ hide ! $
      -- [the table; the token; the way back]
      nothing ! $ fpack ! (Testable p) (λ _. ftrue) tests $ move ! (1 ∷ 0 ∷ []) $ fjoin ! $ move !
      (1 ∷ 0 ∷ []) $ fjoin ! $ fjoin ! $ now ! $ show ! (λ (k : ℕ). sem 𝓛 (lent p G k)) ν $ done !))

  pub take_back : (ν : ℕ) → ent 𝓤 (sem 𝓛 (lent p G ν)) (H.⇛ (sem 𝓛 (boxed p G)))
  take_back ν = qed 𝓛 (‵ (lent p G ν) ∷ []) ∵ updating ! $ fsplit ! $ fsplit ! $ move !
      (1 ∷ []) $ drop ! $ lft_end ! tt $ lent_back ! tt $ now ! $ done !

  -- two threads read
  pub cut : (κ : Lft) (q : Share)
      → ent 𝓤 (sem 𝓛 (shown p (κ, q, G))) (sep 𝓤 (sem 𝓛 (shown p (κ, Share.left q, G)))
      (sem 𝓛 (shown p (κ, Share.right q, G))))
  cut κ q =
      qed 𝓛 (‵ (shown p (κ, q, G)) ∷ []) ∵ fsplit ! $ use1 𝓛 (‵ (flft κ (Share.left q)) ⊛ ‵ (flft κ (Share.right q)))
      (𝓛.lfts.lft_split κ q) $ split ! $ move !
      (2 ∷ []) $ fsplit ! $ shr_dup ! the_table table_laws.the_row_laws.shr_laws G b o κ $
      -- [the table twice; that its pointer may be tested; the two tokens]
      move ! (2 ∷ []) $ fpick ! (λ tests. drop ! $ nothing ! $ fpack ! (Testable p) (λ _. ftrue) tests $ move !
      (1 ∷ 0 ∷ []) $ fjoin ! $ move ! (2 ∷ 0 ∷ []) $ fjoin ! $
      nothing ! $ fpack ! (Testable p) (λ _. ftrue) tests $ move ! (2 ∷ 0 ∷ []) $ fjoin ! $ move !
      (2 ∷ 0 ∷ []) $ fjoin ! $ move ! (1 ∷ 0 ∷ []) $ done !)

  pub joined : (κ : Lft) (q : Share)
      → ent 𝓤 (sep 𝓤 (sem 𝓛 (shown p (κ, Share.left q, G))) (sem 𝓛 (shown p (κ, Share.right q, G))))
      (sem 𝓛 (shown p (κ, q, G)))
  joined κ q =
      qed 𝓛 (‵ (shown p (κ, Share.left q, G)) ∷ ‵ (shown p (κ, Share.right q, G)) ∷ []) ∵ fsplit ! $ move !
      (2 ∷ []) $ fsplit ! $ move ! (1 ∷ []) $ drop ! $ move ! (1 ∷ 0 ∷ []) $
      use2 𝓛 (‵ (flft κ q)) (𝓛.lfts.lft_join κ q) $ fjoin ! $ done !
