-- Row forms of several elements.
use Rattle.std.specs.Prelude.{refl}
use Rattle.document_forms.specs.found.Exact.{FormOf, RowOf}
use Rattle.document_forms.specs.judged.Form.{Ends, ◌▸◌}
use Rattle.document_forms.specs.found.Forms.{ends, ◌▹◌, row_made}

abbrev pub row1 : {A : Type 0} → FormOf A → RowOf (A)
row1 a = row_made (a ▹ ends) (λ t. t.0) (λ t. (t, tt)) (λ x. a.Written x ▸ Ends) (λ x. refl) (λ t ds h. h) (λ t ds h. h)

abbrev pub row2 : {A B : Type 0} → FormOf A → FormOf B → RowOf (A × B)
row2 a b = row_made (a ▹ b ▹ ends) (λ t. (t.0, t.1.0)) (λ t. (t.0, (t.1, tt))) (λ t. a.Written t.0 ▸ b.Written t.1 ▸ Ends) (λ x. refl) (λ t ds h. h) (λ t ds h. h)

abbrev pub row3 : {A B C : Type 0} → FormOf A → FormOf B → FormOf C → RowOf (A × B × C)
row3 a b c = row_made (a ▹ b ▹ c ▹ ends) (λ t. (t.0, t.1.0, t.1.1.0)) (λ t. (t.0, (t.1, (t.2, tt)))) (λ t. a.Written t.0 ▸ b.Written t.1 ▸ c.Written t.2 ▸ Ends) (λ x. refl) (λ t ds h. h) (λ t ds h. h)

abbrev pub row4 : {A B C D : Type 0} → FormOf A → FormOf B → FormOf C → FormOf D → RowOf (A × B × C × D)
row4 a b c d = row_made (a ▹ b ▹ c ▹ d ▹ ends) (λ t. (t.0, t.1.0, t.1.1.0, t.1.1.1.0)) (λ t. (t.0, (t.1, (t.2, (t.3, tt))))) (λ t. a.Written t.0 ▸ b.Written t.1 ▸ c.Written t.2 ▸ d.Written t.3 ▸ Ends) (λ x. refl) (λ t ds h. h) (λ t ds h. h)

abbrev pub row5 : {A B C D E : Type 0} → FormOf A → FormOf B → FormOf C → FormOf D → FormOf E → RowOf (A × B × C × D × E)
row5 a b c d e = row_made (a ▹ b ▹ c ▹ d ▹ e ▹ ends) (λ t. (t.0, t.1.0, t.1.1.0, t.1.1.1.0, t.1.1.1.1.0)) (λ t. (t.0, (t.1, (t.2, (t.3, (t.4, tt)))))) (λ t. a.Written t.0 ▸ b.Written t.1 ▸ c.Written t.2 ▸ d.Written t.3 ▸ e.Written t.4 ▸ Ends) (λ x. refl) (λ t ds h. h) (λ t ds h. h)

abbrev pub row6 : {A B C D E F : Type 0} → FormOf A → FormOf B → FormOf C → FormOf D → FormOf E → FormOf F → RowOf (A × B × C × D × E × F)
row6 a b c d e f = row_made (a ▹ b ▹ c ▹ d ▹ e ▹ f ▹ ends) (λ t. (t.0, t.1.0, t.1.1.0, t.1.1.1.0, t.1.1.1.1.0, t.1.1.1.1.1.0)) (λ t. (t.0, (t.1, (t.2, (t.3, (t.4, (t.5, tt))))))) (λ t. a.Written t.0 ▸ b.Written t.1 ▸ c.Written t.2 ▸ d.Written t.3 ▸ e.Written t.4 ▸ f.Written t.5 ▸ Ends) (λ x. refl) (λ t ds h. h) (λ t ds h. h)

abbrev pub row7 : {A B C D E F G : Type 0} → FormOf A → FormOf B → FormOf C → FormOf D → FormOf E → FormOf F → FormOf G → RowOf (A × B × C × D × E × F × G)
row7 a b c d e f g = row_made (a ▹ b ▹ c ▹ d ▹ e ▹ f ▹ g ▹ ends) (λ t. (t.0, t.1.0, t.1.1.0, t.1.1.1.0, t.1.1.1.1.0, t.1.1.1.1.1.0, t.1.1.1.1.1.1.0)) (λ t. (t.0, (t.1, (t.2, (t.3, (t.4, (t.5, (t.6, tt)))))))) (λ t. a.Written t.0 ▸ b.Written t.1 ▸ c.Written t.2 ▸ d.Written t.3 ▸ e.Written t.4 ▸ f.Written t.5 ▸ g.Written t.6 ▸ Ends) (λ x. refl) (λ t ds h. h) (λ t ds h. h)

abbrev pub row8 : {A B C D E F G H : Type 0} → FormOf A → FormOf B → FormOf C → FormOf D → FormOf E → FormOf F → FormOf G → FormOf H → RowOf (A × B × C × D × E × F × G × H)
row8 a b c d e f g h = row_made (a ▹ b ▹ c ▹ d ▹ e ▹ f ▹ g ▹ h ▹ ends) (λ t. (t.0, t.1.0, t.1.1.0, t.1.1.1.0, t.1.1.1.1.0, t.1.1.1.1.1.0, t.1.1.1.1.1.1.0, t.1.1.1.1.1.1.1.0)) (λ t. (t.0, (t.1, (t.2, (t.3, (t.4, (t.5, (t.6, (t.7, tt))))))))) (λ t. a.Written t.0 ▸ b.Written t.1 ▸ c.Written t.2 ▸ d.Written t.3 ▸ e.Written t.4 ▸ f.Written t.5 ▸ g.Written t.6 ▸ h.Written t.7 ▸ Ends) (λ x. refl) (λ t ds h. h) (λ t ds h. h)

abbrev pub row9 : {A B C D E F G H I : Type 0} → FormOf A → FormOf B → FormOf C → FormOf D → FormOf E → FormOf F → FormOf G → FormOf H → FormOf I → RowOf (A × B × C × D × E × F × G × H × I)
row9 a b c d e f g h i = row_made (a ▹ b ▹ c ▹ d ▹ e ▹ f ▹ g ▹ h ▹ i ▹ ends) (λ t. (t.0, t.1.0, t.1.1.0, t.1.1.1.0, t.1.1.1.1.0, t.1.1.1.1.1.0, t.1.1.1.1.1.1.0, t.1.1.1.1.1.1.1.0, t.1.1.1.1.1.1.1.1.0)) (λ t. (t.0, (t.1, (t.2, (t.3, (t.4, (t.5, (t.6, (t.7, (t.8, tt)))))))))) (λ t. a.Written t.0 ▸ b.Written t.1 ▸ c.Written t.2 ▸ d.Written t.3 ▸ e.Written t.4 ▸ f.Written t.5 ▸ g.Written t.6 ▸ h.Written t.7 ▸ i.Written t.8 ▸ Ends) (λ x. refl) (λ t ds h. h) (λ t ds h. h)
