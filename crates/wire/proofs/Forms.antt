-- Which form belongs to which type.
use Rattle.std.proofs.Common.{◌≡◌, ◌≢◌, ℕ, suc, ◌≤◌, false, eqb, refl, subst, inl, inr, ◌⊎◌, arith}
use Rattle.std.proofs.lemmas.Bool.{eqb-true, eqb-false, ne_eqb, cases_lt}
use Rattle.wire.specs.Payloads.{IsUnknownType, type_of_skipped}
use Rattle.wire.specs.Reading.{form_of}
use Rattle.wire.specs.declared.form.Form.{Form}
use Rattle.wire.specs.declared.form.Form.TheVariants as forms
use Rattle.wire.proofs.Options.{pick}

-- the types of a form
abbrev pub FormIs : Form → ℕ → Type 0
FormIs forms.Sa kind = kind ≡ 33
FormIs forms.Ke kind = kind ≡ 34
FormIs forms.IdI kind = kind ≡ 35
FormIs forms.IdR kind = kind ≡ 36
FormIs forms.Auth kind = kind ≡ 39
FormIs forms.Nonce kind = kind ≡ 40
FormIs forms.Notify kind = kind ≡ 41
FormIs forms.Delete kind = kind ≡ 42
FormIs forms.TsI kind = kind ≡ 44
FormIs forms.TsR kind = kind ≡ 45
FormIs forms.Sealed kind = kind ≡ 46
FormIs (forms.Skipped s) kind = kind ≡ type_of_skipped s
FormIs forms.Unknown kind = (kind ≤ 32) ⊎ (49 ≤ kind)

past : (kind n : ℕ) → n ≤ kind → eqb kind n ≡ false → suc n ≤ kind
past kind n le differ = let other : kind ≢ n = eqb-false kind n differ in omega arith

pub form_is : (kind : ℕ) (form : Form) → form_of kind ≡ form → FormIs form kind
form_is kind form e0 =
    elim (pick (eqb kind 33) _ _ _ e0) [
      | inl a ↦ subst (λ (g : Form). FormIs g kind) a.1 (eqb-true _ _ a.0)
      | inr b0 ↦
          elim (pick (eqb kind 34) _ _ _ b0.1) [
            | inl a ↦ subst (λ (g : Form). FormIs g kind) a.1 (eqb-true _ _ a.0)
            | inr b1 ↦
                elim (pick (eqb kind 35) _ _ _ b1.1) [
                  | inl a ↦ subst (λ (g : Form). FormIs g kind) a.1 (eqb-true _ _ a.0)
                  | inr b2 ↦
                      elim (pick (eqb kind 36) _ _ _ b2.1) [
                        | inl a ↦ subst (λ (g : Form). FormIs g kind) a.1 (eqb-true _ _ a.0)
                        | inr b3 ↦
                            elim (pick (eqb kind 37) _ _ _ b3.1) [
                              | inl a ↦ subst (λ (g : Form). FormIs g kind) a.1 (eqb-true _ _ a.0)
                              | inr b4 ↦
                                  elim (pick (eqb kind 38) _ _ _ b4.1) [
                                    | inl a ↦ subst (λ (g : Form). FormIs g kind) a.1 (eqb-true _ _ a.0)
                                    | inr b5 ↦
                                        elim (pick (eqb kind 39) _ _ _ b5.1) [
                                          | inl a ↦ subst (λ (g : Form). FormIs g kind) a.1 (eqb-true _ _ a.0)
                                          | inr b6 ↦
                                              elim (pick (eqb kind 40) _ _ _ b6.1) [
                                                | inl a ↦ subst (λ (g : Form). FormIs g kind) a.1 (eqb-true _ _ a.0)
                                                | inr b7 ↦
                                                    elim (pick (eqb kind 41) _ _ _ b7.1) [
                                                      | inl a ↦ subst (λ (g : Form). FormIs g kind) a.1 (eqb-true _ _ a.0)
                                                      | inr b8 ↦
                                                          elim (pick (eqb kind 42) _ _ _ b8.1) [
                                                            | inl a ↦ subst (λ (g : Form). FormIs g kind) a.1 (eqb-true _ _ a.0)
                                                            | inr b9 ↦
                                                                elim (pick (eqb kind 43) _ _ _ b9.1) [
                                                                  | inl a ↦ subst (λ (g : Form). FormIs g kind) a.1 (eqb-true _ _ a.0)
                                                                  | inr b10 ↦
                                                                      elim (pick (eqb kind 44) _ _ _ b10.1) [
                                                                        | inl a ↦ subst (λ (g : Form). FormIs g kind) a.1 (eqb-true _ _ a.0)
                                                                        | inr b11 ↦
                                                                            elim (pick (eqb kind 45) _ _ _ b11.1) [
                                                                              | inl a ↦ subst (λ (g : Form). FormIs g kind) a.1 (eqb-true _ _ a.0)
                                                                              | inr b12 ↦
                                                                                  elim (pick (eqb kind 46) _ _ _ b12.1) [
                                                                                    | inl a ↦ subst (λ (g : Form). FormIs g kind) a.1 (eqb-true _ _ a.0)
                                                                                    | inr b13 ↦
                                                                                        elim (pick (eqb kind 47) _ _ _ b13.1) [
                                                                                          | inl a ↦ subst (λ (g : Form). FormIs g kind) a.1 (eqb-true _ _ a.0)
                                                                                          | inr b14 ↦
                                                                                              elim (pick (eqb kind 48) _ _ _ b14.1) [
                                                                                                | inl a ↦ subst (λ (g : Form). FormIs g kind) a.1 (eqb-true _ _ a.0)
                                                                                                | inr b15 ↦
                                                                                                    subst (λ (g : Form). FormIs g kind) b15.1 (elim (cases_lt kind 33) [
                                                                                                      | inl low ↦ inl (omega arith)
                                                                                                      | inr high ↦ inr (past kind 48 (past kind 47 (past kind 46 (past kind 45 (past kind 44 (past kind 43 (past kind 42 (past kind 41 (past kind 40 (past kind 39 (past kind 38 (past kind 37 (past kind 36 (past kind 35 (past kind 34 (past kind 33 high b0.0) b1.0) b2.0) b3.0) b4.0) b5.0) b6.0) b7.0) b8.0) b9.0) b10.0) b11.0) b12.0) b13.0) b14.0) b15.0)
                                                                                                    ])
                                                                                              ]
                                                                                        ]
                                                                                  ]
                                                                            ]
                                                                      ]
                                                                ]
                                                          ]
                                                    ]
                                              ]
                                        ]
                                  ]
                            ]
                      ]
                ]
          ]
    ]

differs : (kind n : ℕ) → (kind ≢ n) → eqb kind n ≡ false
differs kind n other = ne_eqb kind n other

pub form_unknown : (kind : ℕ) → IsUnknownType kind → form_of kind ≡ forms.Unknown
form_unknown kind h =
    let e33 : eqb kind 33 ≡ false = differs kind 33 (other 33 (omega arith) (omega arith)) in
    let e34 : eqb kind 34 ≡ false = differs kind 34 (other 34 (omega arith) (omega arith)) in
    let e35 : eqb kind 35 ≡ false = differs kind 35 (other 35 (omega arith) (omega arith)) in
    let e36 : eqb kind 36 ≡ false = differs kind 36 (other 36 (omega arith) (omega arith)) in
    let e37 : eqb kind 37 ≡ false = differs kind 37 (other 37 (omega arith) (omega arith)) in
    let e38 : eqb kind 38 ≡ false = differs kind 38 (other 38 (omega arith) (omega arith)) in
    let e39 : eqb kind 39 ≡ false = differs kind 39 (other 39 (omega arith) (omega arith)) in
    let e40 : eqb kind 40 ≡ false = differs kind 40 (other 40 (omega arith) (omega arith)) in
    let e41 : eqb kind 41 ≡ false = differs kind 41 (other 41 (omega arith) (omega arith)) in
    let e42 : eqb kind 42 ≡ false = differs kind 42 (other 42 (omega arith) (omega arith)) in
    let e43 : eqb kind 43 ≡ false = differs kind 43 (other 43 (omega arith) (omega arith)) in
    let e44 : eqb kind 44 ≡ false = differs kind 44 (other 44 (omega arith) (omega arith)) in
    let e45 : eqb kind 45 ≡ false = differs kind 45 (other 45 (omega arith) (omega arith)) in
    let e46 : eqb kind 46 ≡ false = differs kind 46 (other 46 (omega arith) (omega arith)) in
    let e47 : eqb kind 47 ≡ false = differs kind 47 (other 47 (omega arith) (omega arith)) in
    let e48 : eqb kind 48 ≡ false = differs kind 48 (other 48 (omega arith) (omega arith)) in
    rw (e33, e34, e35, e36, e37, e38, e39, e40, e41, e42, e43, e44, e45, e46, e47, e48) refl where
      other : (n : ℕ) → 33 ≤ n → n ≤ 48 → kind ≢ n
      other n low high e = elim h [ inl a ↦ absurd (omega (arith, a, e)) | inr b ↦ absurd (omega (arith, b, e)) ]
