-- `==` of `BuiltIn` is equality.
use Rattle.std.proofs.Common.{◌≡◌, IsTrue, Bool, rules, inl}
use Rattle.std.specs.Bool.{beq}
use Rattle.ir_kinds.specs.declared.bindings.BuiltIn.{BuiltIn}
use Rattle.ir_kinds.specs.contracts.bindings.BuiltIn.{enum}
use Rattle.ir_kinds.specs.contracts.bindings.BuiltInPartialEq.TheImpl.{ghosts}
use Rattle.ir_types.proofs.Choices.{Test, Laws, same_view}

same_flag : (a b : Bool) → IsTrue (beq a b) → a ≡ b
same_flag a b e = search rules

abbrev flag : Test Bool
flag = (beq, same_flag)

-- no built-in has a field but `Position` (`invariant`) and `Barycentric` (`perspective`)
abbrev laws : Laws enum.parts enum.make
laws = (
  inl tt,
  (
    inl (flag, tt),
    (
      inl tt,
      (
        inl tt,
        (
          inl tt,
          (
            inl tt,
            (
              inl tt,
              (
                inl tt,
                (
                  inl tt,
                  (
                    inl tt,
                    (
                      inl tt,
                      (
                        inl tt,
                        (
                          inl tt,
                          (
                            inl tt,
                            (
                              inl (flag, tt),
                              (
                                inl tt,
                                (
                                  inl tt,
                                  (
                                    inl tt,
                                    (
                                      inl tt,
                                      (
                                        inl tt,
                                        (
                                          inl tt,
                                          (
                                            inl tt,
                                            (
                                              inl tt,
                                              (
                                                inl tt,
                                                (
                                                  inl tt,
                                                  (
                                                    inl tt,
                                                    (
                                                      inl tt,
                                                      (
                                                        inl tt,
                                                        (
                                                          inl tt,
                                                          (
                                                            inl tt,
                                                            (
                                                              inl tt,
                                                              (
                                                                inl tt,
                                                                (
                                                                  inl tt,
                                                                  (
                                                                    inl tt,
                                                                    (
                                                                      inl tt,
                                                                      (
                                                                        inl tt,
                                                                        (
                                                                          inl tt,
                                                                          (
                                                                            inl tt,
                                                                            (
                                                                              inl tt,
                                                                              (
                                                                                inl tt,
                                                                                (
                                                                                  inl tt,
                                                                                  (
                                                                                    inl tt,
                                                                                    (inl tt, (inl tt, (inl tt, (inl tt, (inl tt, (inl tt, (inl tt, tt))))))),
                                                                                  ),
                                                                                ),
                                                                              ),
                                                                            ),
                                                                          ),
                                                                        ),
                                                                      ),
                                                                    ),
                                                                  ),
                                                                ),
                                                              ),
                                                            ),
                                                          ),
                                                        ),
                                                      ),
                                                    ),
                                                  ),
                                                ),
                                              ),
                                            ),
                                          ),
                                        ),
                                      ),
                                    ),
                                  ),
                                ),
                              ),
                            ),
                          ),
                        ),
                      ),
                    ),
                  ),
                ),
              ),
            ),
          ),
        ),
      ),
    ),
  ),
)

pub same_built_in : (a b : BuiltIn) → IsTrue (ghosts.eq a b) → a ≡ b
same_built_in a b e = same_view enum (λ x. x) laws a b e
