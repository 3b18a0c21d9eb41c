-- A list t over the rectangle W that mirrors a list s over P: inside W the two have the same cells, and outside W the list s is still as s₀.
-- What is done to both alike keeps it; pasted over s₀, the list t then gives s. Assumes nothing.
use Prim.Native.Nat.{ℕ, ◌*◌, ◌<◌}
use native.Mathlib.Decide.{ℕ_discrete}
use mathlib.Core.Path.{◌≡◌, refl, sym, ◌∙◌, subst}
use mathlib.Core.Bool.{Bool, true, false, cond}
use mathlib.Core.List.{List}
use lib.ListN.{length}
use Rattle.base.specs.declared.Rect.{Rect}
use Rattle.base.specs.Grid.{area, Inside, inside, Within, place, cell, put, crop, paste}
use Rattle.base.proofs.GridLaws.{widen, place_inj, cell-put_same, cell-put_other, length-put, ext_cell, length-crop, cell-crop, length-paste, paste_in, paste_out, inside_is, inside_yes}

module _ {A : Type 0} (d : A) (k : ℕ) where
  pub record Mirror (P W : Rect) (s₀ t s : List A) : Type 0 where
    pub copied : length t ≡ k * area W
    pub sized : length s ≡ k * area P
    pub same : (x y c : ℕ) → Inside W x y → c < k → cell d k W t x y c ≡ cell d k P s x y c
    pub rest : (x y c : ℕ) → Inside P x y → inside W x y ≡ false → c < k → cell d k P s x y c ≡ cell d k P s₀ x y c

  -- one value written on both sides
  pub mirror_put : (P W : Rect) (s₀ t s : List A) (x y c : ℕ) (v v' : A) → Within P W → Inside W x y → c < k → v ≡ v' → Mirror P W s₀ t s →
      Mirror P W s₀ (put d k W t x y c v) (put d k P s x y c v')
  mirror_put P W s₀ t s x y c v v' w h b e r = record {
    copied = length-put d k W t x y c v ∙ r.copied;
    sized = length-put d k P s x y c v' ∙ r.sized;
    same = λ x' y' c' h' b'. same' x' y' c' h' b' (ℕ_discrete (place k W x' y' c') (place k W x y c));
    rest = λ x' y' c' h' o b'. cell-put_other d k P s x y c v' x' y' c' (λ q.
        let p = place_inj k P x' y' c' x y c h' (widen w h) b' b q in
        let i : inside W x' y' ≡ true = rw (p.0, p.1) (inside_yes W x y h) in
        let z : true ≡ false = sym i ∙ o in
        subst (λ u. cond u Unit ⊥) z tt) ∙ r.rest x' y' c' h' o b';
  }
    where
      same' : (x' y' c' : ℕ) → Inside W x' y' → c' < k → Dec (place k W x' y' c' ≡ place k W x y c) →
          cell d k W (put d k W t x y c v) x' y' c' ≡ cell d k P (put d k P s x y c v') x' y' c'
      same' x' y' c' h' b' (yes q) =
          let p = place_inj k W x' y' c' x y c h' h b' b q in
          rw (p.0, p.1, p.2) (cell-put_same d k W t x y c v r.copied h b ∙ e ∙ sym (cell-put_same d k P s x y c v' r.sized (widen w h) b))
      same' x' y' c' h' b' (no q) =
          cell-put_other d k W t x y c v x' y' c' q ∙ r.same x' y' c' h' b' ∙
          sym (cell-put_other d k P s x y c v' x' y' c' (λ z.
          let p = place_inj k P x' y' c' x y c (widen w h') (widen w h) b' b z in
          q (rw (p.0, p.1, p.2))))

  -- a crop mirrors its image
  pub mirror_crop : (P W : Rect) (s : List A) → length s ≡ k * area P → Mirror P W s (crop d k P W s) s
  mirror_crop P W s n = record {
    copied = length-crop d k P W s;
    sized = n;
    same = λ x y c h b. cell-crop d k P W s x y c h b;
    rest = λ x y c h o b. refl;
  }

  -- and pasted over the old image it gives the new one
  pub mirror_paste : (P W : Rect) (s₀ t s : List A) → Mirror P W s₀ t s → paste d k P W s₀ t ≡ s
  mirror_paste P W s₀ t s r = ext_cell d k P (paste d k P W s₀ t) s (length-paste d k P W s₀ t) r.sized (λ x y c h b. go x y c h b (inside W x y) refl)
    where
      go : (x y c : ℕ) → Inside P x y → c < k → (i : Bool) → inside W x y ≡ i → cell d k P (paste d k P W s₀ t) x y c ≡ cell d k P s x y c
      go x y c h b true e = paste_in d k P W s₀ t x y c h b e ∙ r.same x y c (inside_is W x y e) b
      go x y c h b false e = paste_out d k P W s₀ t x y c h b e ∙ sym (r.rest x y c h e b)
