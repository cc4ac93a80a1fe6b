-- The values that a seed picks, by what the operations after the last barrier put into each sector.
use Rattle.std.proofs.Common.{◌≡◌, ◌≢◌, ◌==◌, ◌+◌, ◌-◌, ◌*◌, ◌/◌, ◌%◌, ◌^◌, ◌≤◌, ◌<◌, ℕ, Bool, true, false, List, [], ◌∷◌, ◌++◌, length, take, drop, get_or, set, min, replicate, refl, sym, ◌∙◌, ap, subst, inl, inr, arith}
use Rattle.std.specs.Prelude.{Contains, if◌then◌else◌}
use Rattle.std.proofs.lemmas.Bool.{cases_eq, cases_lt}
use Rattle.std.proofs.lemmas.Bool.Decides.{nat_tests}
use Rattle.std.proofs.lemmas.List.Elements.{Contains-get_or, Contains-append_left, Contains-append_right}
use Rattle.std.proofs.lemmas.List.{append_assoc, append-nil, length-append, length_push, take_more, take-append-drop, drop_all, drop-append-le, get_or_past, get_or_append_left, get_or-set_same, get_or-set_other, length-set, length-replicate, get_or-replicate, take_all, take-append-le}
use Rattle.std.proofs.lemmas.Grind.{get_or_default_zero}
use Rattle.std.proofs.Math.Seq.{get_or-append_seam}
use Rattle.vx_dev.specs.declared.device.Operation.{Operation}
use Rattle.vx_dev.specs.declared.device.Operation.TheVariants.{Put, Barrier}
use Rattle.vx_dev.specs.Tape.{Tape, upto, Choice, after_op, after_ops, did, choice, values, now, MayHold}
use Rattle.vx_dev.specs.Picks.{IsWithin, put_by, put_values, value_number, picked_value}
use Rattle.vx_dev.proofs.Tapes.{choice-put, choice-barrier, now-barrier, now-put, now-put_other}

pub put_values-push : (s : ℕ) (ops : List Operation) (op : Operation) → put_values s (ops ++ op ∷ []) ≡ put_values s ops ++ put_by s op
unfolding put_values
put_values-push s [] op = append-nil (put_by s op)
put_values-push s (o ∷ ops) op = ap (λ l. put_by s o ++ l) (put_values-push s ops op) ∙ sym (append_assoc (put_by s o) (put_values s ops) (put_by s op))

pub put_by-same : (s : ℕ) (bytes : List ℕ) → put_by s (Put s bytes) ≡ bytes ∷ []
unfolding put_by
put_by-same s bytes = grind (arith, nat_tests)

pub put_by-other : (s u : ℕ) (bytes : List ℕ) → s ≢ u → put_by s (Put u bytes) ≡ []
unfolding put_by
put_by-other s u bytes other = grind (arith, nat_tests)

pub put_by-barrier : (s : ℕ) → put_by s Barrier ≡ []
unfolding put_by
put_by-barrier s = refl

pub put_values-barrier : (s : ℕ) (ops : List Operation) → put_values s (ops ++ Barrier ∷ []) ≡ put_values s ops
put_values-barrier s ops = put_values-push s ops Barrier ∙ ap (λ (l : List (List ℕ)). put_values s ops ++ l) (put_by-barrier s) ∙ append-nil (put_values s ops)

pub length-put_by : (s : ℕ) (op : Operation) → length (put_by s op) ≤ 1
unfolding put_by
length-put_by s (Put u bytes) = grind (arith, nat_tests)
length-put_by s Barrier = omega arith

pub length-put_values : (s : ℕ) (ops : List Operation) → length (put_values s ops) ≤ length ops
unfolding put_values
length-put_values s [] = omega arith
length-put_values s (op ∷ ops) = omega (arith, length-put_by s op, length-put_values s ops, length-append (put_by s op) (put_values s ops))

-- what an operation at the sector u adds to the values of the sector s, by whether they are the same
chosen_values : (b : Bool) (c : Choice) (bytes : List ℕ) → (let d : Choice = (if b then record { older = c.older ++ c.last ∷ []; last = bytes } else c) in d.older ++ d.last ∷ []) ≡ (c.older ++ c.last ∷ []) ++ (if b then bytes ∷ [] else [])
chosen_values true c bytes = refl
chosen_values false c bytes = sym (append-nil (c.older ++ c.last ∷ []))

pub values-put : (t : Tape) (s u : ℕ) (bytes : List ℕ) → values (did (Put u bytes) t) s ≡ values t s ++ put_by s (Put u bytes)
unfolding values after_op put_by
values-put t s u bytes = ap (λ (c : Choice). c.older ++ c.last ∷ []) (choice-put t u s bytes) ∙ chosen_values (u == s) (choice t s) bytes

pub values-barrier : (t : Tape) (s : ℕ) → values (did Barrier t) s ≡ now (did Barrier t) s ∷ []
unfolding values now after_op
values-barrier t s = ap (λ (c : Choice). c.older ++ c.last ∷ []) (choice-barrier t s) ∙ ap (λ (c : Choice). c.last ∷ []) (sym (choice-barrier t s))

pub next_op : (ops : List Operation) (i : ℕ) (d op : Operation) → i < length ops → get_or ops i d ≡ op → take (i + 1) ops ≡ take i ops ++ op ∷ []
next_op ops i d op lt is = take_more ops i d lt ∙ ap (λ (o : Operation). take i ops ++ o ∷ []) is

pub within_at : (n : ℕ) (ops : List Operation) (i : ℕ) (d : Operation) (u : ℕ) (bytes : List ℕ) → IsWithin n ops → i < length ops → get_or ops i d ≡ Put u bytes → u < n
within_at n ops i d u bytes within lt is = within u bytes (subst (λ (o : Operation). Contains ops o) is (Contains-get_or ops i d lt))

pub put_values-same : (s : ℕ) (ops : List Operation) (bytes : List ℕ) → put_values s (ops ++ Put s bytes ∷ []) ≡ put_values s ops ++ bytes ∷ []
put_values-same s ops bytes = put_values-push s ops (Put s bytes) ∙ ap (λ (l : List (List ℕ)). put_values s ops ++ l) (put_by-same s bytes)

pub put_values-other : (s u : ℕ) (ops : List Operation) (bytes : List ℕ) → s ≢ u → put_values s (ops ++ Put u bytes ∷ []) ≡ put_values s ops
put_values-other s u ops bytes other = put_values-push s ops (Put u bytes) ∙ ap (λ (l : List (List ℕ)). put_values s ops ++ l) (put_by-other s u bytes other) ∙ append-nil (put_values s ops)

zero_at : (n s : ℕ) → ◌≡◌ {A = ℕ} (get_or (replicate n 0) s 0) 0
zero_at n s = elim (cases_lt s n) [ inl lt ↦ get_or-replicate n s 0 0 lt | inr le ↦ get_or_past (replicate n 0) s 0 (omega (arith, length-replicate {A = ℕ} n 0)) ]

-- how often each sector is written by the operations
pub record AreCounts (n : ℕ) (ops : List Operation) (counts : List ℕ) : Type 0 where
  pub same_length : length counts ≡ n
  pub count : (s : ℕ) → get_or counts s 0 ≡ length (put_values s ops)

count_put : (counts : List ℕ) (ops : List Operation) (u v : ℕ) (bytes : List ℕ) → u < length counts → v ≡ get_or counts u 0 → ((s : ℕ) → get_or counts s 0 ≡ length (put_values s ops))
    → (s : ℕ) → get_or (set counts u (v + 1)) s 0 ≡ length (put_values s (ops ++ Put u bytes ∷ []))
count_put counts ops u v bytes in_it now before s =
    elim (cases_eq s u) [
      | inl same ↦
          let P : ℕ → Type 0 = λ w. get_or (set counts u (v + 1)) w 0 ≡ length (put_values w (ops ++ Put u bytes ∷ [])) in
          let here : P u = get_or-set_same counts u (v + 1) 0 in_it ∙ ap (λ (n : ℕ). n + 1) (now ∙ before u) ∙ sym (ap length (put_values-same u ops bytes) ∙ length_push (put_values u ops) bytes) in
          subst P (sym same) here
      | inr other ↦ get_or-set_other counts u s (v + 1) 0 other ∙ before s ∙ ap length (sym (put_values-other s u ops bytes other))
    ]

pub counts_put : (n : ℕ) (counts counts2 : List ℕ) (ops ops2 : List Operation) (u v : ℕ) (bytes : List ℕ) → u < n → v ≡ get_or counts u v → counts2 ≡ set counts u (v + 1) → ops2 ≡ ops ++ Put u bytes ∷ []
    → AreCounts n ops counts → AreCounts n ops2 counts2
counts_put n counts counts2 ops ops2 u v bytes lt now is ops_is before =
    let in_it : u < length counts = omega arith in
    let value : v ≡ get_or counts u 0 = now ∙ get_or_default_zero counts u v in_it in
    subst (λ (o : List Operation). AreCounts n o counts2) (sym ops_is) (subst (λ (l : List ℕ). AreCounts n (ops ++ Put u bytes ∷ []) l) (sym is) (record {
      same_length = length-set counts u (v + 1) ∙ before.same_length;
      count = count_put counts ops u v bytes in_it value before.count;
    }))

pub counts_barrier : (n : ℕ) (counts counts2 : List ℕ) (ops ops2 : List Operation) → counts2 ≡ counts → ops2 ≡ ops ++ Barrier ∷ []
    → AreCounts n ops counts → AreCounts n ops2 counts2
counts_barrier n counts counts2 ops ops2 is ops_is before =
    subst (λ (o : List Operation). AreCounts n o counts2) (sym ops_is) (subst (λ (l : List ℕ). AreCounts n (ops ++ Barrier ∷ []) l) (sym is) (record {
      same_length = before.same_length;
      count = λ s. before.count s ∙ ap length (sym (put_values-barrier s ops));
    }))

pub counts_none : (n : ℕ) (counts : List ℕ) → counts ≡ replicate n 0 → AreCounts n [] counts
unfolding put_values
counts_none n counts is = subst (λ (l : List ℕ). AreCounts n [] l) (sym is) (record { same_length = length-replicate n 0; count = λ s. zero_at n s })

-- every sector has the last value that the operations gave it
pub record IsLatest (start : List (List ℕ)) (ops : List Operation) (image : List (List ℕ)) : Type 0 where
  pub same_length : length image ≡ length start
  pub last : (s : ℕ) → get_or image s [] ≡ now (record { start = start; ops = ops }) s

pub latest_none : (start : List (List ℕ)) → IsLatest start [] start
unfolding now choice after_ops
latest_none start = record { same_length = refl; last = λ s. refl }

pub latest_put : (start image image2 : List (List ℕ)) (ops ops2 : List Operation) (u : ℕ) (bytes : List ℕ) → u < length start → image2 ≡ set image u bytes → ops2 ≡ ops ++ Put u bytes ∷ []
    → IsLatest start ops image → IsLatest start ops2 image2
latest_put start image image2 ops ops2 u bytes lt is ops_is before =
    let t : Tape = record { start = start; ops = ops } in
    subst (λ (o : List Operation). IsLatest start o image2) (sym ops_is) (subst (λ (l : List (List ℕ)). IsLatest start (ops ++ Put u bytes ∷ []) l) (sym is) (record {
      same_length = length-set image u bytes ∙ before.same_length;
      last = λ s. elim (cases_eq s u) [
        | inl e ↦ subst (λ (v : ℕ). get_or (set image u bytes) v [] ≡ now (did (Put u bytes) t) v) (sym e) (get_or-set_same image u bytes [] (omega (arith, before.same_length)) ∙ sym (now-put t u bytes))
        | inr other ↦ get_or-set_other image u s bytes [] other ∙ before.last s ∙ sym (now-put_other t u s bytes other)
      ];
    }))

pub latest_barrier : (start image image2 : List (List ℕ)) (ops ops2 : List Operation) → image2 ≡ image → ops2 ≡ ops ++ Barrier ∷ []
    → IsLatest start ops image → IsLatest start ops2 image2
latest_barrier start image image2 ops ops2 is ops_is before =
    let t : Tape = record { start = start; ops = ops } in
    subst (λ (o : List Operation). IsLatest start o image2) (sym ops_is) (subst (λ (l : List (List ℕ)). IsLatest start (ops ++ Barrier ∷ []) l) (sym is) (record {
      same_length = before.same_length;
      last = λ s. before.last s ∙ sym (now-barrier t s);
    }))

-- One sector: of its old value and those that were put, it has the one with that number, or the last. What is left
-- of the number counts down.
pub record HasPicked (old : List ℕ) (number : ℕ) (put : List (List ℕ)) (value : List ℕ) (left : ℕ) : Type 0 where
  pub left_is : left ≡ number - length put
  pub value_is : value ≡ get_or {A = List ℕ} (old ∷ put) (min number (length put)) []

picked_more : (old : List ℕ) (number : ℕ) (put : List (List ℕ)) (value : List ℕ) (left : ℕ) (bytes : List ℕ) → 0 < left → HasPicked old number put value left → HasPicked old number (put ++ bytes ∷ []) bytes (left - 1)
picked_more old number put value left bytes some before =
    let at : min number (length (put ++ bytes ∷ [])) ≡ length (old ∷ put) = omega (arith, length_push put bytes, before.left_is) in
    record {
      left_is = omega (arith, length_push put bytes, before.left_is);
      value_is = sym (ap (λ (i : ℕ). get_or {A = List ℕ} (old ∷ (put ++ bytes ∷ [])) i []) at ∙ get_or-append_seam (old ∷ put) bytes [] []);
    }

picked_enough : (old : List ℕ) (number : ℕ) (put : List (List ℕ)) (value : List ℕ) (left : ℕ) (bytes : List ℕ) → left ≤ 0 → HasPicked old number put value left → HasPicked old number (put ++ bytes ∷ []) value left
picked_enough old number put value left bytes none before =
    let at : min number (length (put ++ bytes ∷ [])) ≡ min number (length put) = omega (arith, length_push put bytes, before.left_is) in
    let in_it : min number (length put) < length (old ∷ put) = omega arith in
    record {
      left_is = omega (arith, length_push put bytes, before.left_is);
      value_is = before.value_is ∙ sym (ap (λ (i : ℕ). get_or {A = List ℕ} (old ∷ (put ++ bytes ∷ [])) i []) at ∙ get_or_append_left (old ∷ put) (bytes ∷ []) [] (min number (length put)) in_it);
    }

-- all sectors
pub record ArePicked (old : List (List ℕ)) (numbers : List ℕ) (ops : List Operation) (image : List (List ℕ)) (left : List ℕ) : Type 0 where
  pub same_length : length image ≡ length old
  pub at : (s : ℕ) → HasPicked (get_or old s []) (get_or numbers s 0) (put_values s ops) (get_or image s []) (get_or left s 0)

pub picked_none : (old : List (List ℕ)) (numbers : List ℕ) → ArePicked old numbers [] old numbers
unfolding put_values
picked_none old numbers = record { same_length = refl; at = λ s. record { left_is = omega arith; value_is = sym (ap (λ (i : ℕ). get_or {A = List ℕ} (get_or old s [] ∷ []) i []) (let e : min (get_or numbers s 0) 0 ≡ 0 = omega arith in e)) } }

pub picked_put : (old image image2 : List (List ℕ)) (numbers left left2 : List ℕ) (ops ops2 : List Operation) (u : ℕ) (bytes : List ℕ) → u < length old → length left ≡ length old → 0 < get_or left u 0
    → image2 ≡ set image u bytes → left2 ≡ set left u (get_or left u 0 - 1) → ops2 ≡ ops ++ Put u bytes ∷ []
    → ArePicked old numbers ops image left → ArePicked old numbers ops2 image2 left2
picked_put old image image2 numbers left left2 ops ops2 u bytes lt left_len some is left_is ops_is before =
    subst (λ (o : List Operation). ArePicked old numbers o image2 left2) (sym ops_is) (subst (λ (l : List (List ℕ)). ArePicked old numbers (ops ++ Put u bytes ∷ []) l left2) (sym is)
    (subst (λ (l : List ℕ). ArePicked old numbers (ops ++ Put u bytes ∷ []) (set image u bytes) l) (sym left_is) (record {
      same_length = length-set image u bytes ∙ before.same_length;
      at = λ s. elim (cases_eq s u) [
        | inl e ↦
            let P : ℕ → Type 0 = λ v. HasPicked (get_or old v []) (get_or numbers v 0) (put_values v (ops ++ Put u bytes ∷ [])) (get_or (set image u bytes) v []) (get_or (set left u (get_or left u 0 - 1)) v 0) in
            let more = picked_more _ _ _ _ _ bytes some (before.at u) in
            let value : bytes ≡ get_or (set image u bytes) u [] = sym (get_or-set_same image u bytes [] (omega (arith, before.same_length))) in
            let count : get_or left u 0 - 1 ≡ get_or (set left u (get_or left u 0 - 1)) u 0 = sym (get_or-set_same left u (get_or left u 0 - 1) 0 (omega arith)) in
            let here : P u = record {
              left_is = sym count ∙ more.left_is ∙ ap (λ (l : List (List ℕ)). get_or numbers u 0 - length l) (sym (put_values-same u ops bytes));
              value_is = sym value ∙ more.value_is ∙ ap (λ (l : List (List ℕ)). get_or {A = List ℕ} (get_or old u [] ∷ l) (min (get_or numbers u 0) (length l)) []) (sym (put_values-same u ops bytes));
            } in
            subst P (sym e) here
        | inr other ↦ record {
          left_is = get_or-set_other left u s (get_or left u 0 - 1) 0 other ∙ (before.at s).left_is ∙ ap (λ (l : List (List ℕ)). get_or numbers s 0 - length l) (sym (put_values-other s u ops bytes other));
          value_is = get_or-set_other image u s bytes [] other ∙ (before.at s).value_is ∙ ap (λ (l : List (List ℕ)). get_or {A = List ℕ} (get_or old s [] ∷ l) (min (get_or numbers s 0) (length l)) []) (sym (put_values-other s u ops bytes other));
        }
      ];
    })))

pub picked_kept : (old image image2 : List (List ℕ)) (numbers left left2 : List ℕ) (ops ops2 : List Operation) (u : ℕ) (bytes : List ℕ) → get_or left u 0 ≤ 0
    → image2 ≡ image → left2 ≡ left → ops2 ≡ ops ++ Put u bytes ∷ []
    → ArePicked old numbers ops image left → ArePicked old numbers ops2 image2 left2
picked_kept old image image2 numbers left left2 ops ops2 u bytes none is left_is ops_is before =
    subst (λ (o : List Operation). ArePicked old numbers o image2 left2) (sym ops_is) (subst (λ (l : List (List ℕ)). ArePicked old numbers (ops ++ Put u bytes ∷ []) l left2) (sym is)
    (subst (λ (l : List ℕ). ArePicked old numbers (ops ++ Put u bytes ∷ []) image l) (sym left_is) (record {
      same_length = before.same_length;
      at = λ s. elim (cases_eq s u) [
        | inl e ↦
            let P : ℕ → Type 0 = λ v. HasPicked (get_or old v []) (get_or numbers v 0) (put_values v (ops ++ Put u bytes ∷ [])) (get_or image v []) (get_or left v 0) in
            let here : P u = subst (λ (l : List (List ℕ)). HasPicked (get_or old u []) (get_or numbers u 0) l (get_or image u []) (get_or left u 0)) (sym (put_values-same u ops bytes)) (picked_enough _ _ _ _ _ bytes none (before.at u)) in
            subst P (sym e) here
        | inr other ↦ subst (λ (l : List (List ℕ)). HasPicked (get_or old s []) (get_or numbers s 0) l (get_or image s []) (get_or left s 0)) (sym (put_values-other s u ops bytes other)) (before.at s)
      ];
    })))

pub picked_barrier : (old image image2 : List (List ℕ)) (numbers left left2 : List ℕ) (ops ops2 : List Operation) → image2 ≡ image → left2 ≡ left → ops2 ≡ ops ++ Barrier ∷ []
    → ArePicked old numbers ops image left → ArePicked old numbers ops2 image2 left2
picked_barrier old image image2 numbers left left2 ops ops2 is left_is ops_is before =
    subst (λ (o : List Operation). ArePicked old numbers o image2 left2) (sym ops_is) (subst (λ (l : List (List ℕ)). ArePicked old numbers (ops ++ Barrier ∷ []) l left2) (sym is)
    (subst (λ (l : List ℕ). ArePicked old numbers (ops ++ Barrier ∷ []) image l) (sym left_is) (record {
      same_length = before.same_length;
      at = λ s. subst (λ (l : List (List ℕ)). HasPicked (get_or old s []) (get_or numbers s 0) l (get_or image s []) (get_or left s 0)) (sym (put_values-barrier s ops)) (before.at s);
    })))

-- the operations up to the last barrier leave one value of a sector, and those after it add what they put
pub record IsSplit (settled : ℕ) (ops : List Operation) : Type 0 where
  pub bound : settled ≤ length ops
  pub split : (start : List (List ℕ)) (s : ℕ) → values (record { start = start; ops = ops }) s ≡ now (record { start = start; ops = take settled ops }) s ∷ put_values s (drop settled ops)

pub split_none : IsSplit 0 []
unfolding values now choice after_ops put_values
split_none = record { bound = omega arith; split = λ start s. refl }

pub split_put : (settled : ℕ) (ops : List Operation) (u : ℕ) (bytes : List ℕ) → IsSplit settled ops → IsSplit settled (ops ++ Put u bytes ∷ [])
split_put settled ops u bytes before = record {
  bound = omega (arith, length_push ops (Put u bytes), before.bound);
  split = λ start s.
      let rest : drop settled (ops ++ Put u bytes ∷ []) ≡ drop settled ops ++ Put u bytes ∷ [] = drop-append-le settled ops (Put u bytes ∷ []) before.bound in
      let front : take settled (ops ++ Put u bytes ∷ []) ≡ take settled ops = take-append-le settled ops (Put u bytes ∷ []) before.bound in
      values-put (record { start = start; ops = ops }) s u bytes ∙ ap (λ (l : List (List ℕ)). l ++ put_by s (Put u bytes)) (before.split start s)
      ∙ ap (λ (o : List Operation). now (record { start = start; ops = o }) s ∷ (put_values s (drop settled ops) ++ put_by s (Put u bytes))) (sym front)
      ∙ ap (λ (l : List (List ℕ)). now (record { start = start; ops = take settled (ops ++ Put u bytes ∷ []) }) s ∷ l) (sym (ap (put_values s) rest ∙ put_values-push s (drop settled ops) (Put u bytes)));
}

pub split_barrier : (settled : ℕ) (ops : List Operation) → settled ≡ length ops + 1 → IsSplit settled (ops ++ Barrier ∷ [])
unfolding put_values
split_barrier settled ops is =
    let whole : length (ops ++ Barrier ∷ []) ≤ settled = omega (arith, length_push ops Barrier) in
    record {
      bound = omega (arith, length_push ops Barrier);
      split = λ start s.
          values-barrier (record { start = start; ops = ops }) s
          ∙ ap (λ (o : List Operation). now (record { start = start; ops = o }) s ∷ []) (sym (take_all settled (ops ++ Barrier ∷ []) whole))
          ∙ ap (λ (l : List (List ℕ)). now (record { start = start; ops = take settled (ops ++ Barrier ∷ []) }) s ∷ l) (sym (ap (put_values s) (drop_all settled (ops ++ Barrier ∷ []) whole)));
    }

within_take : (n m : ℕ) (ops : List Operation) → IsWithin n ops → IsWithin n (take m ops)
within_take n m ops within s bytes has = within s bytes (subst (λ (o : List Operation). Contains o (Put s bytes)) (take-append-drop m ops) (Contains-append_left (take m ops) (drop m ops) (Put s bytes) has))

within_drop : (n m : ℕ) (ops : List Operation) → IsWithin n ops → IsWithin n (drop m ops)
within_drop n m ops within s bytes has = within s bytes (subst (λ (o : List Operation). Contains o (Put s bytes)) (take-append-drop m ops) (Contains-append_right (take m ops) (drop m ops) (Put s bytes) has))

-- the two parts of the first m operations are within the disk
pub within_settled : (n m k : ℕ) (ops settled : List Operation) → settled ≡ take k (take m ops) → IsWithin n ops → IsWithin n settled
within_settled n m k ops settled is within = subst (IsWithin n) (sym is) (within_take n k (take m ops) (within_take n m ops within))

pub within_open : (n m k : ℕ) (ops open_ops : List Operation) → open_ops ≡ drop k (take m ops) → IsWithin n ops → IsWithin n open_ops
within_open n m k ops open_ops is within = subst (IsWithin n) (sym is) (within_drop n k (take m ops) (within_take n m ops within))

-- a loop that gives each number of a list a new value
pub numbers_done : (f : ℕ → ℕ → ℕ) (old numbers : List ℕ) (i x : ℕ) → i < length numbers → x ≡ f i (get_or numbers i 0) → ((s : ℕ) → s < i → get_or numbers s 0 ≡ f s (get_or old s 0)) → ((s : ℕ) → i ≤ s → get_or numbers s 0 ≡ get_or old s 0)
    → (s : ℕ) → s < i + 1 → get_or (set numbers i x) s 0 ≡ f s (get_or old s 0)
numbers_done f old numbers i x in_it is done rest s lt =
    elim (cases_eq s i) [
      | inl e ↦
          let P : ℕ → Type 0 = λ v. get_or (set numbers i x) v 0 ≡ f v (get_or old v 0) in
          let here : P i = get_or-set_same numbers i x 0 in_it ∙ is ∙ ap (f i) (rest i (omega arith)) in
          subst P (sym e) here
      | inr other ↦ get_or-set_other numbers i s x 0 other ∙ done s (omega arith)
    ]

pub numbers_rest : (old numbers : List ℕ) (i x : ℕ) → ((s : ℕ) → i ≤ s → get_or numbers s 0 ≡ get_or old s 0) → (s : ℕ) → i + 1 ≤ s → get_or (set numbers i x) s 0 ≡ get_or old s 0
numbers_rest old numbers i x rest s le = get_or-set_other numbers i s x 0 (λ e. omega arith) ∙ rest s (omega arith)

chosen_number : (b c : Bool) (x count : ℕ) → 0 < count → (if b then count - 1 else if c then 0 else x % count) < count
chosen_number true c x count some = omega arith
chosen_number false true x count some = some
chosen_number false false x count some = omega arith

value_number_bound : (seed s count : ℕ) → 0 < count → value_number seed s count < count
value_number_bound seed s count some = chosen_number (seed == 0) (seed == 1) (((seed + s) % 2 ^ 64 * 0x9E3779B97F4A7C15) % 2 ^ 64 / 2 ^ 32) count some

-- of one value and those written, the one with that number, or the last
pub record IsAt (all : List (List ℕ)) (writes number : ℕ) (value : List ℕ) : Type 0 where
  pub count : length all ≡ writes + 1
  pub value_is : value ≡ get_or all (min number (length all - 1)) []

pub at_values : (start replayed image : List (List ℕ)) (ops settled open_ops : List Operation) (k s number : ℕ)
    → values (record { start = start; ops = ops }) s ≡ now (record { start = start; ops = take k ops }) s ∷ put_values s (drop k ops) → settled ≡ take k ops → open_ops ≡ drop k ops
    → get_or replayed s [] ≡ now (record { start = start; ops = settled }) s
    → get_or image s [] ≡ get_or {A = List ℕ} (get_or replayed s [] ∷ put_values s open_ops) (min number (length (put_values s open_ops))) []
    → IsAt (values (record { start = start; ops = ops }) s) (length (put_values s open_ops)) number (get_or image s [])
at_values start replayed image ops settled open_ops k s number split settled_is open_is last picked =
    let all : List (List ℕ) = get_or replayed s [] ∷ put_values s open_ops in
    let same : all ≡ values (record { start = start; ops = ops }) s =
    ap (λ (x : List ℕ). x ∷ put_values s open_ops) (last ∙ ap (λ (o : List Operation). now (record { start = start; ops = o }) s) settled_is)
    ∙ ap (λ (o : List Operation). now (record { start = start; ops = take k ops }) s ∷ put_values s o) open_is ∙ sym split in
    let count : length (put_values s open_ops) ≡ length all - 1 = omega arith in
    subst (λ (l : List (List ℕ)). IsAt l (length (put_values s open_ops)) number (get_or image s [])) same (record { count = omega arith; value_is = picked ∙ ap (λ (i : ℕ). get_or {A = List ℕ} (get_or replayed s [] ∷ put_values s open_ops) (min number i) []) count })

pub at_may : (t : Tape) (s writes number : ℕ) (value : List ℕ) → IsAt (values t s) writes number value → MayHold t s value
unfolding MayHold
at_may t s writes number value at = subst (λ (x : List ℕ). Contains (values t s) x) (sym at.value_is) (Contains-get_or (values t s) (min number (length (values t s) - 1)) [] (omega (arith, at.count)))

min_le : (a b : ℕ) → a ≤ b → min a b ≡ a
min_le a b le = omega arith

pub at_picked : (all : List (List ℕ)) (seed s number writes : ℕ) (value : List ℕ) → IsAt all writes number value → number ≡ value_number seed s (writes + 1) → value ≡ picked_value seed s all
at_picked all seed s number writes value at number_is =
    let same : number ≡ value_number seed s (length all) = number_is ∙ ap (value_number seed s) (sym at.count) in
    let bound : value_number seed s (length all) < length all = value_number_bound seed s (length all) (omega (arith, at.count)) in
    let exact : min number (length all - 1) ≡ value_number seed s (length all) = rw same (let m : ℕ = value_number seed s (length all) in min_le m (length all - 1) (let b : m < length all = bound in omega arith)) in
    at.value_is ∙ ap (λ (i : ℕ). get_or all i []) exact

-- the same of the tape that the disk tells
pub at_moment : (start image : List (List ℕ)) (all told : List Operation) (m s writes number : ℕ) (value : List ℕ) → image ≡ start → told ≡ all
    → IsAt (values (record { start = image; ops = take m told }) s) writes number value → IsAt (values (upto m (record { start = start; ops = all })) s) writes number value
at_moment start image all told m s writes number value start_is all_is at =
    subst (λ (o : List Operation). IsAt (values (record { start = start; ops = take m o }) s) writes number value) all_is
    (subst (λ (i : List (List ℕ)). IsAt (values (record { start = i; ops = take m told }) s) writes number value) start_is at)
