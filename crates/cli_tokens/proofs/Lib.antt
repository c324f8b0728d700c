mod UpTo
