-- Rows that hold, one after the other. Assumes nothing.
infixr 4 ◌and◌
pub ◌and◌ : {A B : Type 0} → A → B → A × B
p and q = (p, q)
