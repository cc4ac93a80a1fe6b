-- What the map of free blocks says of a block.
use Rattle.std.proofs.Common.{◌≡◌, ℕ, ◌-◌, ◌*◌, ◌<◌, Bool, true, not, ◌&&◌, Option, None, sym, ◌∙◌, ap}
use Rattle.std.proofs.lemmas.Bool.{and_parts, ltb-true}
use Rattle.vx_alloc.specs.FreeMaps.{FreeMapView, is_data, is_free, is_in_set, is_barred, is_at_or_past, unit_of}

module _ (v : FreeMapView) (b : ℕ) where
  pub data_high : is_data v b ≡ true → b - v.first < 4096 * v.units
  data_high is = ltb-true _ _ ((and_parts _ _ ((and_parts _ _ is).1)).0)

  -- where nothing is barred, a data block is free exactly where it is in the set
  pub set_is_free : v.bar ≡ None → is_data v b ≡ true → is_in_set v b ≡ is_free v b
  set_is_free none is =
      sym (ap (λ (x : Bool). x && (not (is_barred v b) && is_in_set v b)) is ∙ ap (λ (o : Option ℕ). true && (not (is_at_or_past o (unit_of v b)) && is_in_set v b)) none)
