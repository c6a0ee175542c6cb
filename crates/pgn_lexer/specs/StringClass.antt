-- **Definition**: the classes of bytes in a string (PGN 7). A plain byte stands for itself.
pub data StringClass : Type 0 where
  Quote : StringClass
  LineEnd : StringClass
  Control : StringClass
  Backslash : StringClass
  Plain : StringClass
