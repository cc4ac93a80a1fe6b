-- What holds of whatever a call does, by its lines.
use Rattle.std.proofs.Common.{◌≡◌, Bool, true, false, Ok, Err, refl, subst}
use Rattle.vx_base.specs.declared.refusal.Refusal.{Refusal}
use Rattle.vx_model.specs.Outcome.{Maybe, unless, ◌>>=◌}

abbrev pub Always : {A : Type 0} → (A → Type 0) → Maybe A → Type 0
Always P (Ok x) = P x
Always P (Err why) = Unit {0}

pub bind : {A B : Type 0} (P : B → Type 0) (m : Maybe A) (rest : A → Maybe B) → ((x : A) → m ≡ Ok x → Always P (rest x)) → Always P (m >>= rest)
bind P (Ok x) rest h = h x refl
bind P (Err why) rest h = tt

pub where_true : {A : Type 0} (P : A → Type 0) (t : Bool) (why : Refusal) (rest : Maybe A) → (t ≡ true → Always P rest) → Always P (unless t why rest)
where_true P true why rest h = h refl
where_true P false why rest h = tt

pub always_ok : {A : Type 0} (P : A → Type 0) (m : Maybe A) (x : A) → Always P m → m ≡ Ok x → P x
always_ok P (Ok y) x h e = let same : y ≡ x = cc in subst P same h
always_ok P (Err why) x h e = absurd cc
