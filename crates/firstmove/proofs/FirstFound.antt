-- `next` of `filter_map` over 0 to n gives what a loop gives that keeps the first find. The closure may change what it captures, as long as what it
-- answers stays the same. By induction on the turns that answered nothing. Assumes nothing.
use Prim.Native.Nat.{ℕ, ◌≤◌}
use native.Mathlib.Omega.{arith}
use mathlib.Core.Path.{◌≡◌, refl, sym, ap, subst, ◌∙◌}
use mathlib.Core.List.{List, [], ◌∷◌}
use denote.Param.Members.{Mut}
use Rattle.std.proofs.iter.Yields.{nat_range_steps}
use Rattle.std.specs.declared.ops.Range.{Range}
use Rattle.std.specs.declared.iter.FilterMap.{FilterMap}
use Rattle.std.specs.Iterator.{Yields}
use Rattle.std.specs.Iterator.Adapters.{filter_map_source, filter_map_callee, filter_map_steps}
use Rattle.std.specs.Fn.{Called}
use Rattle.std.specs.List.{FoldsTo}
use Rattle.std.specs.Option.{MatchOption, IsSome}
use Rattle.std.specs.Prelude.{Option, None, Some}
use Rattle.base.specs.Loop.{up_to}
use Rattle.firstmove.specs.declared.FirstMove.{FirstMove}
use Rattle.firstmove.proofs.Laws.{Keeps, up_to_none_more, up_to_left}

module _ {F : Type 0} (g : Mut F (ℕ × Unit {0}) (Option FirstMove)) (P : ℕ → Option FirstMove → Option FirstMove) (keeps : Keeps P) (n : ℕ) (Same : F → Type 0)
    (k : (p : F) (x : ℕ) (r : Option FirstMove) (q : F) → Same p → Called g p (x, tt) r q → Same q × (r ≡ P x None)) where
  -- nothing was found before
  abbrev Nothing : Range ℕ → Type 0
  Nothing s = (s.end ≡ n) × (s.start ≤ n) × (up_to P s.start None ≡ None)

  goes : (xs : List ℕ) (s t : Range ℕ) (p q : F) → Yields nat_range_steps s xs t → FoldsTo (λ p x q. Called g p (x, tt) None q) p xs q → Same p → Nothing s → Same q × Nothing t
  goes [] s t p q y c i h = (subst Same c i, subst Nothing y h)
  goes (x ∷ xs) s t p q y c i h =
      let d = k p x None c.0 i c.1 in
      let here : P s.start None ≡ None = ap (λ (a : ℕ). P a None) (sym y.1.1.1) ∙ sym d.1 in
      goes xs y.0 t c.0 q y.2 c.2 d.0
      (y.1.0 ∙ h.0, omega (arith, h.0, y.1.1.0, y.1.1.2), subst (λ (a : ℕ). up_to P a None ≡ None) (sym y.1.1.2) (up_to_none_more P s.start h.2 here))

  ends : (o : Option ℕ) (s u : Range ℕ) (p q : F) (r : Option FirstMove) → Same p → Nothing s → nat_range_steps s o u →
      MatchOption o ((r ≡ None) × (q ≡ p)) (λ x. Called g p (x, tt) r q × IsSome r) → r ≡ up_to P n None
  ends None s u p q r i h w e = e.0 ∙ sym (subst (λ (a : ℕ). up_to P a None ≡ None) (omega (arith, h.0, h.1, w.1.0)) h.2)
  ends (Some x) s u p q r i h w e =
      sym (up_to_left P keeps n s.start r (omega (arith, h.0, w.1.0)) h.2 (ap (λ (a : ℕ). P a None) (sym w.1.1) ∙ sym (k p x r q i e.0).1) e.1)

  pub first_found : (a b : FilterMap (Range ℕ) F) (r : Option FirstMove) → filter_map_steps nat_range_steps g a r b → filter_map_source a ≡ record { start = 0; end = n } → Same (filter_map_callee a) → r ≡ up_to P n None
  unfolding up_to
  first_found a b r e s i =
      let start : Nothing (filter_map_source a) = rw s (refl, omega arith, refl) in
      let at = goes e.0 (filter_map_source a) e.3.0 (filter_map_callee a) e.2 e.3.1 e.4 i start in
      ends e.1 e.3.0 (filter_map_source b) e.2 (filter_map_callee b) r at.0 at.1 e.3.2 e.5
