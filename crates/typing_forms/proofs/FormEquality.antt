-- `==` of forms is equality.
use Rattle.std.proofs.Common.{◌≡◌, ◌↔◌, IsTrue, subst, inl}
use Rattle.ir_types.proofs.Choices.{Laws, same_view}
use Rattle.ir_types.proofs.Same.{number, flag, handle, missing}
use Rattle.ir_types.proofs.TypeEquality.{size_test, space_test, vector_test, side_test, role_test, scalar_test, dim_test, class_test}
use Rattle.typing_forms.specs.declared.form.Form.{Form}
use Rattle.typing_forms.specs.contracts.form.Form.{enum}
use Rattle.typing_forms.specs.contracts.form.FormPartialEq.TheImpl as of_form
use Rattle.typing_forms.specs.contracts.form.FormEq.TheImpl.Laws as form_laws

-- in declaration order
abbrev laws : Laws enum.parts enum.make
laws = (
  inl (scalar_test, tt),
  (
    inl (vector_test, (scalar_test, tt)),
    (
      inl (vector_test, (vector_test, (scalar_test, tt))),
      (
        inl (side_test, (side_test, (scalar_test, (role_test, tt)))),
        (
          inl (scalar_test, tt),
          (
            inl (handle, (space_test, tt)),
            (
              inl (missing vector_test, (scalar_test, (space_test, tt))),
              (
                inl (handle, (size_test, (number, tt))),
                (
                  inl (handle, tt),
                  (
                    inl (dim_test, (flag, (class_test, tt))),
                    (
                      inl (flag, tt),
                      (
                        inl (flag, tt),
                        (
                          inl (flag, tt),
                          (
                            inl (handle, (size_test, tt)),
                            (inl tt, tt),
                          ),
                        ),
                      ),
                    ),
                  ),
                ),
              ),
            ),
          ),
        ),
      ),
    ),
  ),
)

same_form : (a b : Form) → IsTrue (of_form.ghosts.eq a b) → a ≡ b
same_form a b e = same_view enum (λ x. x) laws a b e

pub form_eq : (a b : Form) → IsTrue (of_form.ghosts.eq a b) ↔ (a ≡ b)
form_eq a b = ((λ e. same_form a b e), (λ e. subst (λ c. IsTrue (of_form.ghosts.eq a c)) e (form_laws.laws-law.refl a)))
