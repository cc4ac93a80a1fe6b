-- Texts that are put in pieces.
use Rattle.std.proofs.Common.{◌≡◌, ℕ, ◌+◌, ◌≤◌, ◌<◌, length, get_or, take, drop, take-append-drop, List, [], ◌∷◌, ◌++◌, refl, sym, ◌∙◌, ap, subst, append_assoc, append-nil, Result, Ok, Err, arith, length-drop, ◌-◌}
use Rattle.std.specs.Prelude.{map, flat_map}
use Rattle.std.proofs.lemmas.List.{take_more, take_all}
use Rattle.std.proofs.lemmas.List.Concat.{flat_map-append}
use Rattle.std.specs.Result.{IsErrAnd}
use Rattle.std.specs.declared.option.Option.{Option}
use Rattle.std.specs.Io.KnownBytes.{Appends}
use Rattle.std.proofs.KnownBytes.{Appends-nil, Appends-trans}
use Rattle.vx_base.specs.Faults.{Rose}
use Rattle.vx_script.specs.Puts.{PutsOutcome, PutsAll, PutsPart}

-- w waits, then t comes, and l waits; then u comes
joined_more : (w t p l u q m : List ℕ) → w ++ t ≡ p ++ l → l ++ u ≡ q ++ m → w ++ (t ++ u) ≡ (p ++ q) ++ m
joined_more w t p l u q m e f =
    sym (append_assoc w t u) ∙ ap (λ (x : List ℕ). x ++ u) e ∙ append_assoc p l u ∙ ap (λ (x : List ℕ). p ++ x) f ∙ sym (append_assoc p q m)

-- nothing is put
pub puts_none : (a : Option (List ℕ)) (f : ℕ) (w : List ℕ) → PutsAll a a f f w w []
puts_none a f w = record { taken = []; joined = append-nil w; appended = Appends-nil a; fine = refl }

-- one piece after another
pub puts_all : {a b c : Option (List ℕ)} {f g h : ℕ} {w l m t u : List ℕ} → PutsAll a b f g w l t → PutsAll b c g h l m u → PutsAll a c f h w m (t ++ u)
puts_all {a} {b} {c} {f} {g} {h} {w} {l} {m} {t} {u} p q = record {
  taken = p.taken ++ q.taken;
  joined = joined_more w t p.taken l u q.taken m p.joined q.joined;
  appended = Appends-trans a b c p.taken q.taken p.appended q.appended;
  fine = q.fine ∙ p.fine;
}

-- a piece, and the next one breaks off
pub puts_all_part : {a b c : Option (List ℕ)} {f g h : ℕ} {w l t u : List ℕ} → PutsAll a b f g w l t → PutsPart b c g h l u → PutsPart a c f h w (t ++ u)
puts_all_part {a} {b} {c} {f} {g} {h} {w} {l} {t} {u} p q = record {
  taken = p.taken ++ q.taken;
  lost = q.lost;
  joined = joined_more w t p.taken l u q.taken q.lost p.joined q.joined;
  appended = Appends-trans a b c p.taken q.taken p.appended q.appended;
  later = subst (λ n. n ≤ h) p.fine q.later;
  rose = subst (λ n. Rose n h) p.fine q.rose;
}

-- a piece breaks off, and others would follow
pub puts_part : {a b : Option (List ℕ)} {f g : ℕ} {w t : List ℕ} (u : List ℕ) → PutsPart a b f g w t → PutsPart a b f g w (t ++ u)
puts_part {a} {b} {f} {g} {w} {t} u p = record {
  taken = p.taken;
  lost = p.lost ++ u;
  joined = sym (append_assoc w t u) ∙ ap (λ (x : List ℕ). x ++ u) p.joined ∙ append_assoc p.taken p.lost u;
  appended = p.appended;
  later = p.later;
  rose = p.rose;
}

-- a piece, and then what the last call says
pub puts_then : {T E : Type 0} {a b : Option (List ℕ)} {f g : ℕ} {w l t : List ℕ} (c : Option (List ℕ)) (h : ℕ) (m u : List ℕ) (r : Result T E)
    → PutsAll a b f g w l t → PutsOutcome b c g h l m r u → PutsOutcome a c f h w m r (t ++ u)
puts_then c h m u (Ok x) p q = puts_all p q
puts_then c h m u (Err e) p q = puts_all_part p q

-- a text, and then the bytes that wait are handed on
pub puts_flushed : {T E : Type 0} {a b : Option (List ℕ)} {f g : ℕ} {w l t : List ℕ} (c : Option (List ℕ)) (h : ℕ) (m : List ℕ) (r : Result T E)
    → PutsAll a b f g w l t → PutsOutcome b c g h l m r [] → PutsOutcome a c f h w m r t
puts_flushed {a = a} {f = f} {w = w} {t = t} c h m r p q = subst (PutsOutcome a c f h w m r) (append-nil t) (puts_then c h m [] r p q)

-- what is returned at a fault
pub puts_at_err : {T E : Type 0} {a b : Option (List ℕ)} {f g : ℕ} {w t : List ℕ} (m : List ℕ) (r : Result T E) (R : E → Type 0) → IsErrAnd r R → PutsPart a b f g w t → PutsOutcome a b f g w m r t
puts_at_err m (Ok x) R h p = absurd h
puts_at_err m (Err e) R h p = p

-- ---- a piece for each element of a list

pub flat_map-take_more : {X : Type 0} (t : X → List ℕ) (xs : List X) (i : ℕ) (d : X) → i < length xs → flat_map t (take (i + 1) xs) ≡ flat_map t (take i xs) ++ t (get_or xs i d)
flat_map-take_more t xs i d lt =
    ap (flat_map t) (take_more xs i d lt) ∙ flat_map-append t (take i xs) (get_or xs i d ∷ []) ∙ ap (λ (x : List ℕ). flat_map t (take i xs) ++ x) (append-nil (t (get_or xs i d)))

pub puts_more : {X : Type 0} {a b c : Option (List ℕ)} {f g h : ℕ} {w l m : List ℕ} (t : X → List ℕ) (xs : List X) (i : ℕ) (d : X) → i < length xs
    → PutsAll a b f g w l (flat_map t (take i xs)) → PutsAll b c g h l m (t (get_or xs i d)) → PutsAll a c f h w m (flat_map t (take (i + 1) xs))
puts_more {X} {a} {b} {c} {f} {g} {h} {w} {l} {m} t xs i d lt p q = subst (PutsAll a c f h w m) (sym (flat_map-take_more t xs i d lt)) (puts_all p q)

pub puts_broken : {X : Type 0} {a b c : Option (List ℕ)} {f g h : ℕ} {w l : List ℕ} (t : X → List ℕ) (xs : List X) (i : ℕ) (d : X) → i < length xs
    → PutsAll a b f g w l (flat_map t (take i xs)) → PutsPart b c g h l (t (get_or xs i d)) → PutsPart a c f h w (flat_map t xs)
puts_broken {X} {a} {b} {c} {f} {g} {h} {w} {l} t xs i d lt p q =
    let whole : flat_map t xs ≡ (flat_map t (take i xs) ++ t (get_or xs i d)) ++ flat_map t (drop (i + 1) xs) =
    ap (flat_map t) (sym (take-append-drop (i + 1) xs)) ∙ flat_map-append t (take (i + 1) xs) (drop (i + 1) xs)
    ∙ ap (λ (x : List ℕ). x ++ flat_map t (drop (i + 1) xs)) (flat_map-take_more t xs i d lt) in
    subst (PutsPart a c f h w) (sym whole) (puts_part (flat_map t (drop (i + 1) xs)) (puts_all_part p q))

pub flat_map-map : {X Y : Type 0} (t : Y → List ℕ) (h : X → Y) (xs : List X) → flat_map t (map h xs) ≡ flat_map (λ x. t (h x)) xs
flat_map-map t h [] = refl
flat_map-map t h (x ∷ xs) = ap (λ (y : List ℕ). t (h x) ++ y) (flat_map-map t h xs)

-- ---- a piece that is written

-- a write takes the first n bytes of what is left
pub puts_write : {a b : Option (List ℕ)} {f g : ℕ} {piece rest : List ℕ} (c : Option (List ℕ)) (h n : ℕ) → PutsAll a b f g piece rest [] → Appends b c (take n rest) → h ≡ g
    → PutsAll a c f h piece (take (length rest - n) (drop n rest)) []
puts_write {a} {b} {f} {g} {piece} {rest} c h n p q e =
    let left : take (length rest - n) (drop n rest) ≡ drop n rest = take_all _ (drop n rest) (omega (arith, length-drop n rest)) in
    subst (λ (x : List ℕ). PutsAll a c f h piece x []) (sym left) (record {
      taken = p.taken ++ take n rest;
      joined = p.joined ∙ ap (λ (x : List ℕ). p.taken ++ x) (sym (take-append-drop n rest)) ∙ sym (append_assoc p.taken (take n rest) (drop n rest));
      appended = Appends-trans a b c p.taken (take n rest) p.appended q;
      fine = e ∙ p.fine;
    })
