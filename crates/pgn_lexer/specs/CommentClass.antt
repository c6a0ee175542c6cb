-- **Definition**: the classes of bytes in a comment (PGN 5).
pub data CommentClass : Type 0 where
  LineEnd : CommentClass
  Space : CommentClass
  CloseBrace : CommentClass
  WordByte : CommentClass
  Control : CommentClass
