-- Parts of a path, one at a time.
use Rattle.std.proofs.Common.{◌≡◌, ℕ, ◌+◌, ◌<◌, List, [], ◌∷◌, ◌++◌, length, take, map, get_or, Bool, true, false, ◌&&◌, Option, Some, None, refl, sym, ◌∙◌, ap, arith, cond}
use Rattle.std.specs.Borrow.{Bor}
use Rattle.std.specs.List.{list_all}
use Rattle.std.proofs.lemmas.List.{get_or-map, take_more, take_all, length-map}
use Rattle.std.proofs.lemmas.List.Folds.{list_all_at, list_all_more}
use Rattle.vx_base.specs.Paths.{FileName, is_name, if_names}

abbrev pub texts : List (Bor (List ℕ)) → List FileName
texts parts = map (λ part. part.now) parts

module _ (parts : List (Bor (List ℕ))) (i : ℕ) (d : Bor (List ℕ)) (h : i < length parts) where
  within : i < length (texts parts)
  within = omega (arith, length-map parts (λ (part : Bor (List ℕ)). part.now))

  text_at : get_or (texts parts) i [] ≡ (get_or parts i d).now
  text_at = get_or-map (λ (part : Bor (List ℕ)). part.now) parts i d [] h

  pub not_names : is_name (get_or parts i d).now ≡ false → if_names (texts parts) ≡ None
  not_names bad = ap (λ b. cond b (Some (texts parts)) None) (list_all_at is_name (texts parts) i [] within (ap is_name text_at ∙ bad))

  pub one_more : take (i + 1) (texts parts) ≡ take i (texts parts) ++ (get_or parts i d).now ∷ []
  one_more = take_more (texts parts) i [] within ∙ ap (λ x. take i (texts parts) ++ x ∷ []) text_at

  pub names_more : list_all is_name (take i (texts parts)) ≡ true → is_name (get_or parts i d).now ≡ true → list_all is_name (take (i + 1) (texts parts)) ≡ true
  names_more before good = list_all_more is_name (texts parts) i [] within ∙ ap (λ b. b && is_name (get_or (texts parts) i [])) before ∙ ap is_name text_at ∙ good
