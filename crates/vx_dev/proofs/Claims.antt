-- Laws of claims: of what is told of a device, and of each image at each moment. They hold for every claim, which a contract
-- cannot say, so they are cited from here by the crates above.
use Rattle.std.proofs.Common.{◌≡◌, ◌⊎◌, ◌+◌, ◌<◌, ◌≤◌, ℕ, zero, suc, List, [], ◌∷◌, ◌++◌, length, take, get_or, refl, sym, ◌∙◌, ap, subst, inl, inr, ⊎_elim, arith, append_assoc, length-append}
use Rattle.std.specs.Prelude.{option_map, Option, Some, None, IfSome}
use Rattle.std.proofs.lemmas.Bool.{cases_lt}
use Rattle.std.proofs.lemmas.List.{append-nil, take_all, take_more, take-append-le, get_or_default}
use Rattle.vx_dev.specs.declared.device.Operation.{Operation}
use Rattle.vx_dev.specs.declared.device.Operation.TheVariants.{Put}
use Rattle.vx_dev.specs.Tape.{Tape, State, Did, DidNothing, did, upto, tried, MayHold, IsImage}
use Rattle.vx_dev.specs.Runs.{did_all, Ran, puts, BrokeOff}
use Rattle.vx_dev.specs.Moments.{Told, Shows, Past, Always, Passed}
use Rattle.vx_dev.proofs.Tapes.{upto-did, length-did, may_upto}
use Rattle.vx_dev.proofs.RunLemmas.{length-puts, take-puts, puts-push}

-- ---- what is told

-- what is told after an operation follows from what is told before it
pub told_did : (op : Operation) (old new : Option Tape) (P Q : Tape → Type 0) → new ≡ option_map (did op) old → ((t : Tape) → P t → Q (did op t)) → IfSome old P → IfSome new Q
told_did op None new P Q is step h = subst (λ (o : Option Tape). IfSome o Q) (sym is) tt
told_did op (Some t) new P Q is step h = subst (λ (o : Option Tape). IfSome o Q) (sym is) (step t h)

pub told_nothing : (old new : Option Tape) (P Q : Tape → Type 0) → new ≡ old → ((t : Tape) → P t → Q t) → IfSome old P → IfSome new Q
told_nothing None new P Q is step h = subst (λ (o : Option Tape). IfSome o Q) (sym is) tt
told_nothing (Some t) new P Q is step h = subst (λ (o : Option Tape). IfSome o Q) (sym is) (step t h)

pub told_either : (op : Operation) (old new : State) (P Q : Tape → Type 0) → Did op old new ⊎ DidNothing old new → ((t : Tape) → P t → Q (did op t)) → ((t : Tape) → P t → Q t) → IfSome old.told P → IfSome new.told Q
told_either op old new P Q what done not_done h = elim what [
  | inl d ↦ told_did op old.told new.told P Q d.told done h
  | inr d ↦ told_nothing old.told new.told P Q d.told not_done h
]

-- what is told afterwards, where it follows from what was told
pub told_by : (ops : List Operation) (old new : State) (P : Tape → Type 0) → new.told ≡ option_map (did_all ops) old.told → ((t : Tape) → old.told ≡ Some t → Told new P) → Told new P
told_by ops old new P is h = by_cases old.told refl
  where
    by_cases : (o : Option Tape) → old.told ≡ o → Told new P
    by_cases None e = subst (λ (m : Option Tape). IfSome m P) (sym is) (subst (λ (m : Option Tape). IfSome (option_map (did_all ops) m) P) (sym e) tt)
    by_cases (Some t) e = h t e

pub at_tape : (d : State) (P : Tape → Type 0) (t : Tape) → Told d P → d.told ≡ Some t → P t
at_tape d P t h e = subst (λ (o : Option Tape). IfSome o P) e h

-- ---- every moment

-- what holds of every image now holds of this moment for good
pub past_did : (first : ℕ) (P : ℕ → (ℕ → List ℕ) → Type 0) (t : Tape) (op : Operation) → Past first P t → ((image : ℕ → List ℕ) → IsImage t image → P (length t.ops) image) → Past first P (did op t)
past_did first P t op past present m from before image is =
    let length_is : length (did op t).ops ≡ length t.ops + 1 = length-did t op in
    let moves : IsImage (upto m t) image = subst (λ (u : Tape). IsImage u image) (upto-did t m op (omega (arith, before, length_is))) is in
    elim (cases_lt m (length t.ops)) [
      | inl old ↦ past m from old image moves
      | inr new ↦
          let same : length t.ops ≡ m = omega (arith, before, length_is, new) in
          let now_is : IsImage t image = λ s. may_upto t s (image s) (subst (λ (k : ℕ). MayHold (upto k t) s (image s)) (sym same) (moves s)) in
          subst (λ (k : ℕ). P k image) same (present image now_is)
    ]

-- with this moment, that is every moment
pub always : (first : ℕ) (P : ℕ → (ℕ → List ℕ) → Type 0) (t : Tape) → Past first P t → ((image : ℕ → List ℕ) → IsImage t image → P (length t.ops) image) → Always first P t
always first P t past present m from le image is = elim (cases_lt m (length t.ops)) [
  | inl old ↦ past m from old image is
  | inr new ↦
      let same : length t.ops ≡ m = omega (arith, le, new) in
      let now_is : IsImage t image = λ s. may_upto t s (image s) (subst (λ (k : ℕ). MayHold (upto k t) s (image s)) (sym same) (is s)) in
      subst (λ (k : ℕ). P k image) same (present image now_is)
]

-- the first claim of a run
pub past_start : (P : ℕ → (ℕ → List ℕ) → Type 0) (t : Tape) → Past (length t.ops) P t
past_start P t m from before image is = absurd (omega (arith, from, before))

-- a weaker claim
pub past_weaker : (first : ℕ) (P Q : ℕ → (ℕ → List ℕ) → Type 0) (t : Tape) → ((m : ℕ) (image : ℕ → List ℕ) → P m image → Q m image) → Past first P t → Past first Q t
past_weaker first P Q t weaker past m from before image is = weaker m image (past m from before image is)

-- ---- from one state of the device to another

both : (xs ys : List Operation) (t : Tape) → did_all ys (did_all xs t) ≡ did_all (xs ++ ys) t
both xs ys t = ap (λ (ops : List Operation). record { start = t.start; ops = ops }) (append_assoc t.ops xs ys)

nothing_more : (t : Tape) → did_all [] t ≡ t
nothing_more t = ap (λ (ops : List Operation). record { start = t.start; ops = ops }) (append-nil t.ops)

option_both : (xs ys : List Operation) (o : Option Tape) → option_map (did_all ys) (option_map (did_all xs) o) ≡ option_map (did_all (xs ++ ys)) o
option_both xs ys None = refl
option_both xs ys (Some t) = ap Some (both xs ys t)

option_same : (o : Option Tape) → o ≡ option_map (did_all []) o
option_same None = refl
option_same (Some t) = ap Some (sym (nothing_more t))

module _ (Q : (ℕ → List ℕ) → Type 0) where
  abbrev Each : ℕ → (ℕ → List ℕ) → Type 0
  Each _ image = Q image

  upto_front : (xs ys : List Operation) (t : Tape) (m : ℕ) → m ≤ length (did_all xs t).ops → upto m (did_all (xs ++ ys) t) ≡ upto m (did_all xs t)
  upto_front xs ys t m le = ap (upto m) (sym (both xs ys t)) ∙ ap (λ (ops : List Operation). record { start = t.start; ops = ops }) (take-append-le m (t.ops ++ xs) ys le)

  always_join : (xs ys : List Operation) (t : Tape) → Always (length t.ops) Each (did_all xs t) → Always (length (did_all xs t).ops) Each (did_all ys (did_all xs t)) → Always (length t.ops) Each (did_all (xs ++ ys) t)
  always_join xs ys t first second m from to image is = elim (cases_lt (length (did_all xs t).ops) m) [
    | inl later ↦
        let T : Tape → Type 0 = λ u. IsImage (upto m u) image in
        second m (omega (arith, later)) (omega (arith, to, length-append t.ops (xs ++ ys), length-append xs ys, length-append (t.ops ++ xs) ys, length-append t.ops xs)) image (subst T (sym (both xs ys t)) is)
    | inr earlier ↦ first m from (omega (arith, earlier)) image (subst (λ (u : Tape). IsImage u image) (upto_front xs ys t m (omega (arith, earlier))) is)
  ]

  option_join : (xs ys : List Operation) (a b : Option Tape) → b ≡ option_map (did_all xs) a → IfSome a (λ t. Always (length t.ops) Each (did_all xs t)) → IfSome b (λ t. Always (length t.ops) Each (did_all ys t))
      → IfSome a (λ t. Always (length t.ops) Each (did_all (xs ++ ys) t))
  option_join xs ys None b is first second = tt
  option_join xs ys (Some t) b is first second =
      let next : Always (length (did_all xs t).ops) Each (did_all ys (did_all xs t)) = subst (λ (o : Option Tape). IfSome o (λ u. Always (length u.ops) Each (did_all ys u))) is second in
      always_join xs ys t first next

  pub passed_join : (a b c : State) → Passed Q a b → Passed Q b c → Passed Q a c
  passed_join a b c p q = record {
    ops = p.ops ++ q.ops;
    told = q.told ∙ ap (option_map (did_all q.ops)) p.told ∙ option_both p.ops q.ops a.told;
    always = option_join p.ops q.ops a.told b.told p.told p.always q.always;
  }

  -- at one moment
  present : (t : Tape) → Shows Q t → Always (length t.ops) Each t
  present t shows = always (length t.ops) Each t (past_start Each t) shows

  option_none : (o : Option Tape) → IfSome o (Shows Q) → IfSome o (λ t. Always (length t.ops) Each (did_all [] t))
  option_none None h = tt
  option_none (Some t) h = subst (λ (u : Tape). Always (length t.ops) Each u) (sym (nothing_more t)) (present t h)

  pub passed_still : (a b : State) → b.told ≡ a.told → Told a (Shows Q) → Passed Q a b
  passed_still a b same h = record { ops = []; told = same ∙ option_same a.told; always = option_none a.told h }

  -- after one operation
  option_one : (op : Operation) (a b : Option Tape) → b ≡ option_map (did op) a → IfSome a (Shows Q) → IfSome b (Shows Q) → IfSome a (λ t. Always (length t.ops) Each (did_all (op ∷ []) t))
  option_one op None b is h k = tt
  option_one op (Some t) b is h k =
      let then : Shows Q (did op t) = subst (λ (o : Option Tape). IfSome o (Shows Q)) is k in
      always (length t.ops) Each (did op t) (past_did (length t.ops) Each t op (past_start Each t) h) then

  pub passed_did : (op : Operation) (a b : State) → Did op a b → Told a (Shows Q) → Told b (Shows Q) → Passed Q a b
  passed_did op a b d h k = record { ops = op ∷ []; told = d.told; always = option_one op a.told b.told d.told h k }

  -- after several operations, of which the earlier moments are known
  option_past : (ops : List Operation) (a b : Option Tape) → b ≡ option_map (did_all ops) a → ((t : Tape) → a ≡ Some t → IfSome b (λ u. Past (length t.ops) Each u × Shows Q u))
      → IfSome a (λ t. Always (length t.ops) Each (did_all ops t))
  option_past ops None b is h = tt
  option_past ops (Some t) b is h =
      let then = subst (λ (o : Option Tape). IfSome o (λ u. Past (length t.ops) Each u × Shows Q u)) is (h t refl) in
      always (length t.ops) Each (did_all ops t) then.0 then.1

  pub passed_past : (ops : List Operation) (a b : State) → b.told ≡ option_map (did_all ops) a.told → ((t : Tape) → a.told ≡ Some t → Told b (λ u. Past (length t.ops) Each u × Shows Q u)) → Passed Q a b
  passed_past ops a b is h = record { ops = ops; told = is; always = option_past ops a.told b.told is h }

pub passed_weaker : (Q R : (ℕ → List ℕ) → Type 0) (a b : State) → ((image : ℕ → List ℕ) → Q image → R image) → Passed Q a b → Passed R a b
passed_weaker Q R a b weaker p = record { ops = p.ops; told = p.told; always = weaken a.told p.always }
  where
    weaken : (o : Option Tape) → IfSome o (λ t. Always (length t.ops) (λ _ image. Q image) (did_all p.ops t)) → IfSome o (λ t. Always (length t.ops) (λ _ image. R image) (did_all p.ops t))
    weaken None h = tt
    weaken (Some t) h = λ m from to image is. weaker image (h m from to image is)

pub told_weaker : (d : State) (P R : Tape → Type 0) → ((t : Tape) → P t → R t) → Told d P → Told d R
told_weaker d P R weaker h = weaken d.told h
  where
    weaken : (o : Option Tape) → IfSome o P → IfSome o R
    weaken None k = tt
    weaken (Some t) k = weaker t k

-- ---- what each write of a run keeps, the run keeps, whole or broken off

pub told_ran : (ops : List Operation) (old new : Option Tape) (P Q : Tape → Type 0) → new ≡ option_map (did_all ops) old → ((t : Tape) → P t → Q (did_all ops t)) → IfSome old P → IfSome new Q
told_ran ops None new P Q is step h = subst (λ (o : Option Tape). IfSome o Q) (sym is) tt
told_ran ops (Some t) new P Q is step h = subst (λ (o : Option Tape). IfSome o Q) (sym is) (step t h)

-- K counts the writes that are done
module _ (K : ℕ → Tape → Type 0) (writes : List (ℕ × List ℕ)) (d : ℕ × List ℕ)
    (step : (i : ℕ) (t : Tape) → i < length writes → K i t → K (i + 1) (did (Put (get_or writes i d).0 (get_or writes i d).1) t)) where
  pub front_keeps : (k : ℕ) (t : Tape) → k ≤ length writes → K 0 t → K k (did_all (take k (puts writes)) t)
  front_keeps zero t le h = subst (λ (l : List Operation). K 0 (record { start = t.start; ops = l })) (sym (append-nil t.ops)) h
  front_keeps (suc k) t le h =
      let before : K k (did_all (take k (puts writes)) t) = front_keeps k t (omega (arith, le)) h in
      let w : ℕ × List ℕ = get_or writes k d in
      let one : K (k + 1) (did (Put w.0 w.1) (did_all (take k (puts writes)) t)) = step k (did_all (take k (puts writes)) t) (omega (arith, le)) before in
      let next : k + 1 ≡ suc k = omega arith in
      let more : take (k + 1) (puts writes) ≡ take k (puts writes) ++ Put w.0 w.1 ∷ [] =
      take-puts (k + 1) writes ∙ ap puts (take_more writes k d (omega (arith, le))) ∙ puts-push (take k writes) w ∙ ap (λ (l : List Operation). l ++ Put w.0 w.1 ∷ []) (sym (take-puts k writes)) in
      subst (λ (j : ℕ). K j (did_all (take j (puts writes)) t)) next
      (subst (λ (l : List Operation). K (k + 1) (did_all l t)) (sym more)
      (subst (λ (l : List Operation). K (k + 1) (record { start = t.start; ops = l })) (append_assoc t.ops (take k (puts writes)) (Put w.0 w.1 ∷ [])) one))

  pub run_keeps : (t : Tape) → K 0 t → K (length writes) (did_all (puts writes) t)
  run_keeps t h = subst (λ (l : List Operation). K (length writes) (did_all l t)) (take_all (length writes) (puts writes) (omega (arith, length-puts writes))) (front_keeps (length writes) t (omega arith) h)

  -- a whole stage
  pub stage_keeps : (old new : State) → Ran (puts writes) old new → Told old (K 0) → Told new (K (length writes))
  stage_keeps old new ran h = told_ran (puts writes) old.told new.told (K 0) (K (length writes)) ran.told (λ t kept. run_keeps t kept) h

  -- a stage that a fault broke off
  pub broken_keeps : (F : Tape → Type 0) → ((i : ℕ) (t : Tape) → i < length writes → K i t → F (did (tried (get_or writes i d).0 (get_or writes i d).1) t)) → ((i : ℕ) (t : Tape) → i < length writes → K i t → F t)
      → (old new : State) → BrokeOff writes old new → Told old (K 0) → Told new F
  broken_keeps F failed stopped old new b h =
      let k : ℕ = b.k in
      let ops : List Operation = take k (puts writes) in
      let w : ℕ × List ℕ = get_or writes k d in
      let le : k ≤ length writes = omega (arith, b.within) in
      let same : w ≡ b.failed = get_or_default writes k d b.failed b.within ∙ b.failed_is in
      ⊎_elim
      (λ (ran : Ran (ops ++ tried b.failed.0 b.failed.1 ∷ []) old new). told_ran (ops ++ tried b.failed.0 b.failed.1 ∷ []) old.told new.told (K 0) F ran.told (λ t kept.
      let one : F (did (tried w.0 w.1) (did_all ops t)) = failed k (did_all ops t) b.within (front_keeps k t le kept) in
      let other : F (did (tried b.failed.0 b.failed.1) (did_all ops t)) = subst (λ (v : ℕ × List ℕ). F (did (tried v.0 v.1) (did_all ops t))) same one in
      subst (λ (l : List Operation). F (record { start = t.start; ops = l })) (append_assoc t.ops ops (tried b.failed.0 b.failed.1 ∷ [])) other) h)
      (λ (ran : Ran ops old new). told_ran ops old.told new.told (K 0) F ran.told (λ t kept. stopped k (did_all ops t) b.within (front_keeps k t le kept)) h)
      b.ran
