-- Every lawful formula whose universals come first has a text.
use Rattle.std.proofs.Common.{◌≡◌, ℕ, zero, suc, ◌+◌, ◌-◌, ◌<◌, ◌≤◌, true, false, cond, ◌&&◌, ◌||◌, eqb, leb, List, [], ◌∷◌, ◌++◌, map, length, get_or, codes, sym, refl, ap, ◌∙◌, subst, ⊎_elim, add-zero, arith}
use Rattle.std.specs.List.{AllByRecursion}
use Rattle.std.proofs.ByRecursion.{All-append, All-map, All-weaker, All-from_get_or}
use Rattle.std.proofs.lemmas.List.{append_assoc, append-nil}
use Rattle.std.proofs.lemmas.Bool.{and_from, and_left, and_parts, both_ways, cases_Bool, eq-eqb, eqb-true, false≢true, le-leb, leb-true, or_from, or_left}
use Rattle.base.specs.declared.values.ValueWord.{ValueWord}
use Rattle.base.specs.Words.{has_bit}
use Rattle.words.specs.Words.{Spelt, words_from}
use Rattle.formula.specs.declared.tables.Literal.{Literal}
use Rattle.spelling.specs.Dqbf.{Declaration, Dqbf, universal, existential, universals_of, member, Distinct}
use Rattle.spelling.specs.FormulaGrammar.{Listing, Depends, Groups, Stops, ClauseText, MatrixText, Spells}
use Rattle.spelling.specs.FormulaGrammar.Listing.{ends as list_ends, goes as list_goes}
use Rattle.spelling.specs.FormulaGrammar.Groups.{none as no_group, a_group, d_group}
use Rattle.spelling.specs.FormulaGrammar.ClauseText.{ends, goes}
use Rattle.spelling.specs.FormulaGrammar.MatrixText.{none, more}
use Rattle.spelling.specs.FormulaGrammar.Spells.{spells}
use Rattle.spelling.proofs.PrefixLaws.{member_get_or, universals_append}
use Rattle.spelling.proofs.TextOf.{Token, name, num, Good, token_bytes, spelt, some_text}
use Rattle.audit.proofs.FormulaPrefix.{dependent, prefix_of, free_universals, Positions}

-- the universals at the positions of a word, where the first has position k
abbrev chosen : ℕ → ValueWord → List ℕ → List ℕ
chosen k w [] = []
chosen k w (u ∷ us) = cond (has_bit w k) (u ∷ chosen (k + 1) w us) (chosen (k + 1) w us)

chosen_not : (v k : ℕ) (w : ValueWord) (us : List ℕ) → member v us ≡ false → member v (chosen k w us) ≡ false
chosen_not v k w [] e = refl
chosen_not v k w (u ∷ us) e =
    elim (eqb u v) as (λ b. (b || member v us) ≡ false → eqb u v ≡ b → member v (chosen k w (u ∷ us)) ≡ false) [
      | true ↦ λ e s. absurd (both_ways true e refl)
      | false ↦ λ e s.
          let rest = chosen (k + 1) w us in
          elim (has_bit w k) as (λ b. member v (cond b (u ∷ rest) rest) ≡ false) [ true ↦ or_from (eqb u v) (member v rest) s (chosen_not v (k + 1) w us e) | false ↦ chosen_not v (k + 1) w us e ]
    ] e refl

chosen_all : (P : ℕ → Type 0) (k : ℕ) (w : ValueWord) (us : List ℕ) → AllByRecursion P us → AllByRecursion P (chosen k w us)
chosen_all P k w [] h = tt
chosen_all P k w (u ∷ us) (p, h) =
    let rest = chosen (k + 1) w us in
    let rest_has = chosen_all P (k + 1) w us h in
    elim (has_bit w k) as (λ b. AllByRecursion P (cond b (u ∷ rest) rest)) [ true ↦ (p, rest_has) | false ↦ rest_has ]

chosen_distinct : (k : ℕ) (w : ValueWord) (us : List ℕ) → Distinct us → Distinct (chosen k w us)
chosen_distinct k w [] d = tt
chosen_distinct k w (u ∷ us) (new, d) =
    let rest = chosen (k + 1) w us in
    let apart = chosen_distinct (k + 1) w us d in
    elim (has_bit w k) as (λ b. Distinct (cond b (u ∷ rest) rest)) [ true ↦ (chosen_not u (k + 1) w us new, apart) | false ↦ apart ]

chosen_at : (k i : ℕ) (w : ValueWord) (us : List ℕ) → Distinct us → i < length us → member (get_or us i 0) (chosen k w us) ≡ has_bit w (k + i)
chosen_at k i w [] d h = absurd (omega arith)
chosen_at k zero w (u ∷ us) (new, d) h =
    let rest = chosen (k + 1) w us in
    elim (has_bit w k) as (λ b. member u (cond b (u ∷ rest) rest) ≡ b) [ true ↦ or_left (eqb u u) (member u rest) (eq-eqb u u refl) | false ↦ chosen_not u (k + 1) w us new ]
    ∙ ap (has_bit w) (sym (add-zero k))
chosen_at k (suc i) w (u ∷ us) (new, d) h =
    let x = get_or us i 0 in
    let rest = chosen (k + 1) w us in
    let other : eqb u x ≡ false = ⊎_elim (λ t. absurd (both_ways (member u us) new (ap (λ v. member v us) (eqb-true u x t) ∙ member_get_or us i (omega arith)))) (λ t. t) (cases_Bool (eqb u x)) in
    let shift : k + 1 + i ≡ k + suc i = omega arith in
    elim (has_bit w k) as (λ b. member x (cond b (u ∷ rest) rest) ≡ member x rest) [ true ↦ ap (λ b. b || member x rest) other | false ↦ refl ]
    ∙ chosen_at (k + 1) i w us d (omega arith) ∙ ap (has_bit w) shift

pub chosen_depends : (us : List ℕ) (w : ValueWord) → Distinct us → Positions (length us) w → Depends us (chosen 1 w us) w
chosen_depends us w d (bound, places) =
    record {
      distinct = chosen_distinct 1 w us d;
      declared = chosen_all (λ u. member u us ≡ true) 1 w us (All-from_get_or (λ u. member u us ≡ true) us 0 (λ i h. member_get_or us i h));
      bound = bound;
      positions = λ k.
          let x = get_or us (k - 1) 0 in
          ⊎_elim
          (λ t.
          let p = and_parts (leb 1 k) (leb k (length us)) t in
          let low = leb-true 1 k p.0 in
          let high = leb-true k (length us) p.1 in
          let shift : 1 + (k - 1) ≡ k = omega arith in
          sym (ap (λ b. b && member x (chosen 1 w us)) t ∙ chosen_at 1 (k - 1) w us d (omega arith) ∙ ap (has_bit w) shift))
          (λ t.
          ⊎_elim
          (λ e. let (low, high) = places k e in absurd (both_ways (leb 1 k && leb k (length us)) t (and_from (leb 1 k) (leb k (length us)) (le-leb 1 k low) (le-leb k (length us) high))))
          (λ e. e ∙ sym (and_left (leb 1 k && leb k (length us)) (member x (chosen 1 w us)) t))
          (cases_Bool (has_bit w k)))
          (cases_Bool (leb 1 k && leb k (length us)));
    }

-- numbers and a 0
abbrev numbers : List ℕ → List Token → List Token
numbers ns rest = map (num false) ns ++ num false 0 ∷ rest

abbrev pub Small : ℕ → Type 0
Small n = (1 ≤ n) × (n ≤ 65535)

numbers_spelt : (p : ℕ) (ns : List ℕ) (rest : List Token) → AllByRecursion Small ns → (q : ℕ) × Listing (spelt p (numbers ns rest)) ns (spelt q rest)
numbers_spelt p [] rest h = (_, list_ends (refl, refl))
numbers_spelt p (n ∷ ns) rest (s, h) =
    let (q, l) = numbers_spelt (p + length (token_bytes (num false n)) + 1) ns rest h in
    (q, list_goes (refl, refl) s.0 l)

good_number : (n : ℕ) → n ≤ 65535 → Good (num false n)
good_number n h = (omega arith, λ e. absurd (false≢true e))

numbers_good : (ns : List ℕ) (rest : List Token) → AllByRecursion Small ns → AllByRecursion Good rest → AllByRecursion Good (numbers ns rest)
numbers_good ns rest h g =
    All-append Good (map (num false) ns) (num false 0 ∷ rest)
    (All-map Good (num false) ns (All-weaker Small (λ n. Good (num false n)) (λ n s. good_number n s.1) ns h))
    (good_number 0 (omega arith), g)

-- the clauses
abbrev literal_token : Literal → Token
literal_token l = num l.negative l.variable

abbrev clause_tokens : List (List Literal) → List Token
clause_tokens [] = []
clause_tokens (c ∷ m) = map literal_token c ++ num false 0 ∷ clause_tokens m

abbrev pub SmallClause : List Literal → Type 0
SmallClause c = AllByRecursion (λ l. Small l.variable) c

clause_spelt : (p : ℕ) (c : List Literal) (rest : List Token) → SmallClause c → (q : ℕ) × ClauseText (spelt p (map literal_token c ++ num false 0 ∷ rest)) c (spelt q rest)
clause_spelt p [] rest h = (_, ends (refl, refl))
clause_spelt p (l ∷ c) rest (s, h) =
    let (q, t) = clause_spelt (p + length (token_bytes (literal_token l)) + 1) c rest h in
    (q, goes (refl, refl) s.0 t)

clauses_spelt : (p : ℕ) (m : List (List Literal)) → AllByRecursion SmallClause m → MatrixText (spelt p (clause_tokens m)) m []
clauses_spelt p [] h = none
clauses_spelt p (c ∷ m) (s, h) =
    let (q, t) = clause_spelt p c (clause_tokens m) s in
    more t (clauses_spelt q m h)

clauses_good : (m : List (List Literal)) → AllByRecursion SmallClause m → AllByRecursion Good (clause_tokens m)
clauses_good [] h = tt
clauses_good (c ∷ m) (s, h) =
    All-append Good (map literal_token c) (num false 0 ∷ clause_tokens m)
    (All-map Good literal_token c (All-weaker (λ l. Small l.variable) (λ l. Good (literal_token l)) (λ l b. (omega arith, λ e. b.0)) c s))
    (good_number 0 (omega arith), clauses_good m h)

clause_stops : (p : ℕ) (c : List Literal) (rest : List Token) → Stops (spelt p (map literal_token c ++ num false 0 ∷ rest))
clause_stops p [] rest = (λ e. e, λ e. e, λ e. e)
clause_stops p (l ∷ c) rest = (λ e. e, λ e. e, λ e. e)

clauses_stop : (p : ℕ) (m : List (List Literal)) → Stops (spelt p (clause_tokens m))
clauses_stop p [] = tt
clauses_stop p (c ∷ m) = clause_stops p c (clause_tokens m)

-- the groups: one of all universals, and one for each existential
module _ (f : ℕ → ValueWord) (us : List ℕ) where
  abbrev dependent_tokens : List ℕ → List Token → List Token
  dependent_tokens [] rest = rest
  dependent_tokens (v ∷ es) rest = name (codes "d") ∷ num false v ∷ numbers (chosen 1 (f v) us) (dependent_tokens es rest)

  dependent_good : (es : List ℕ) (rest : List Token) → AllByRecursion Small us → AllByRecursion Small es → AllByRecursion Good rest → AllByRecursion Good (dependent_tokens es rest)
  dependent_good [] rest hu h g = g
  dependent_good (v ∷ es) rest hu (s, h) g =
      ((omega arith, (refl, tt)), (good_number v s.1, numbers_good (chosen 1 (f v) us) (dependent_tokens es rest) (chosen_all Small 1 (f v) us hu) (dependent_good es rest hu h g)))

  dependent_spelt : (es : List ℕ) (prefix all : List Declaration) (p : ℕ) (rest : List Token) → Distinct us → AllByRecursion Small us → AllByRecursion (λ v. Positions (length us) (f v)) es → universals_of prefix ≡ us → prefix ++ map (dependent f) es ≡ all → (q : ℕ) × Groups prefix (spelt p (dependent_tokens es rest)) all (spelt q rest)
  dependent_spelt [] prefix all p rest d hu h is e =
      (p, subst (λ (x : List Declaration). Groups prefix (spelt p rest) x (spelt p rest)) (sym (append-nil prefix) ∙ e) no_group)
  dependent_spelt (v ∷ es) prefix all p rest d hu (place, h) is e =
      let ns = chosen 1 (f v) us in
      let next = prefix ++ existential v (f v) ∷ [] in
      let at = p + length (token_bytes (name (codes "d"))) + 1 + length (token_bytes (num false v)) + 1 in
      let (mid, l) = numbers_spelt at ns (dependent_tokens es rest) (chosen_all Small 1 (f v) us hu) in
      let same : universals_of next ≡ us = universals_append prefix (existential v (f v) ∷ []) ∙ append-nil (universals_of prefix) ∙ is in
      let (q, g) = dependent_spelt es next all mid rest d hu h same (append_assoc prefix (existential v (f v) ∷ []) (map (dependent f) es) ∙ e) in
      let depends = subst (λ (l : List ℕ). Depends l ns (f v)) (sym is) (chosen_depends us (f v) d place) in
      (q, d_group v refl (refl, refl) l depends g)

  module _ (known : ℕ) (es : List ℕ) (m : List (List Literal)) where
    abbrev pub held : Dqbf
    held = record { variables = known; prefix = prefix_of f us es; matrix = m }

    abbrev tokens_of : List Token
    tokens_of = name (codes "p") ∷ name (codes "cnf") ∷ num false known ∷ num false (length m) ∷ name (codes "a") ∷ numbers us (dependent_tokens es (clause_tokens m))

    module _ (known_few : known ≤ 65535) (clauses_few : length m ≤ 16384) (d : Distinct us) (hu : AllByRecursion Small us) (he : AllByRecursion Small es) (places : AllByRecursion (λ v. Positions (length us) (f v)) es) (hm : AllByRecursion SmallClause m) where
      tokens_good : AllByRecursion Good tokens_of
      tokens_good = (
        (omega arith, (refl, tt)),
        (
          (omega arith, (refl, (refl, (refl, tt)))),
          (
            good_number known known_few,
            (
              good_number (length m) (omega arith),
              (
                (omega arith, (refl, tt)),
                numbers_good us (dependent_tokens es (clause_tokens m)) hu (dependent_good es (clause_tokens m) hu he (clauses_good m hm)),
              ),
            ),
          ),
        ),
      )

      tokens_spell : Spells (spelt 0 tokens_of) held []
      tokens_spell =
          let (mid, l) = numbers_spelt _ us (dependent_tokens es (clause_tokens m)) hu in
          let (q, g) = dependent_spelt es (map universal us) (prefix_of f us es) mid (clause_tokens m) d hu places (free_universals us) refl in
          spells refl refl (refl, refl) (refl, refl) (a_group refl l g) (clauses_stop q m) (clauses_spelt q m hm)

      pub formula_text : (text : List ℕ) × (AllByRecursion (λ b. b < 256) text) × Spells (words_from text 0) held []
      formula_text =
          let t = some_text tokens_of tokens_good in
          (t.0, t.1, subst (λ (ws : List Spelt). Spells ws held []) (sym t.2) tokens_spell)
